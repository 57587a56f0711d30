use mathlib.Core.Path.{refl, sym, ap, ◌∙◌}
use native.Mathlib.Omega.{arith}
use Rattle.records.specs.declared.Taken.{Taken}
use Rattle.records.proofs.Bytes.{good-size, decides_short, decides_bad, decides_part, decides_whole}
use Rattle.records.proofs.decide.Goals as goal

pub returns-then-have-lt4 : goal.returns-then-have-lt4
returns-then-have-lt4 c =
    (c.wait_for_more.ensures ∙ decides_short c.args.edition c.args.held.now c.args.have (omega arith) c.args.used c.if-have-lt4.true, rw c.wait_for_more.ensures tt, ap (λ (t : Taken). t.used) c.wait_for_more.ensures)

pub returns-then-bad_size : goal.returns-then-bad_size
returns-then-bad_size c =
    let bad = sym c.bad_size.ensures ∙ c.if-bad_size.true in
    (decides_bad c.args.edition c.args.held.now c.args.have (omega arith) _ c.read_be32-size.ensures c.if-have-lt4.false c.args.used bad, tt, refl)

pub returns-then-have-end : goal.returns-then-have-end
returns-then-have-end c =
    let good = sym c.bad_size.ensures ∙ c.if-bad_size.false in
    (c.wait_for_more-then-have-end.ensures ∙ decides_part c.args.edition c.args.held.now c.args.have (omega arith) _ c.read_be32-size.ensures c.if-have-lt4.false c.args.used good c.if-have-end.true, rw c.wait_for_more-then-have-end.ensures tt, ap (λ (t : Taken). t.used) c.wait_for_more-then-have-end.ensures)

pub returns : goal.returns
returns c =
    let good = sym c.bad_size.ensures ∙ c.if-bad_size.false in
    let some = good-size c.args.edition c.read_be32-size.result good in
    (decides_whole c.args.edition c.args.held.now c.args.have (omega arith) _ c.read_be32-size.ensures c.if-have-lt4.false c.args.used good c.if-have-end.false, (omega arith, omega arith), refl)
