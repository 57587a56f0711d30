use Prim.Native.Nat.{ℕ}
use mathlib.Core.Path.{sym, subst}
use Rattle.records.specs.Reading.{Lies}
use Rattle.replay.proofs.Feeding.{feeds-short, feeds-taken}
use Rattle.replay.proofs.feed.Goals as goal

pub returns-then-line-lt128 : goal.returns-then-line-lt128
returns-then-line-lt128 c =
    let a = c.args in
    feeds-short a.replay a.held.now a.ring.now a.memory.now a.input.now a.line.now c.if-line-lt128.true

pub after_found-served-requires : goal.after_found-served-requires
after_found-served-requires c =
    let t = c.take-taken in
    (subst (λ (n : ℕ). Lies c.args.replay.edition t.result.found n) (sym t.auto.held) t.ensures.1, c.if-line-lt128.false)

pub returns : goal.returns
returns c =
    let a = c.args in
    let t = c.take-taken in
    let s = c.after_found-served in
    feeds-taken a.replay a.held.now a.ring.now a.memory.now a.input.now a.line.now c.if-line-lt128.false t.result _ t.ensures.3 t.ensures.4 s.result _ _ _ t.ensures.0 t.ensures.2 s.ensures
