use Prim.Native.Nat.{◌+◌, ◌-◌}
use mathlib.Core.Path.{◌≡◌, sym, ◌∙◌}
use native.Mathlib.Omega.{arith}
use Rattle.records.proofs.Bytes.{room-between, good-size, have-short, have-bad, have-rest}
use borrow.Author.Rules.{rules}
use Rattle.records.proofs.bytes_wanted.Goals as goal

pub returns-then-have-lt4 : goal.returns-then-have-lt4
returns-then-have-lt4 c =
    let a = c.args in
    (have-short a.edition a.held.now a.have (omega arith) c.if-have-lt4.true, omega (arith, room-between a.edition))

pub returns-then-bad_size : goal.returns-then-bad_size
returns-then-bad_size c =
    let a = c.args in
    (have-bad a.edition a.held.now a.have (omega arith) c.read_be32-size.result c.read_be32-size.ensures c.if-have-lt4.false (sym c.bad_size.ensures ∙ c.if-bad_size.true), search rules)

pub returns-then-have-end : goal.returns-then-have-end
returns-then-have-end c =
    let a = c.args in
    let size = c.read_be32-size.result in
    let good = sym c.bad_size.ensures ∙ c.if-bad_size.false in
    (have-rest a.edition a.held.now a.have (omega arith) size c.read_be32-size.ensures c.if-have-lt4.false good, omega (arith, (good-size a.edition size good).1))

pub returns-else-have-end : goal.returns-else-have-end
returns-else-have-end c =
    let a = c.args in
    let size = c.read_be32-size.result in
    let good = sym c.bad_size.ensures ∙ c.if-bad_size.false in
    let none : 0 ≡ 4 + size - a.have = omega arith in
    (none ∙ have-rest a.edition a.held.now a.have (omega arith) size c.read_be32-size.ensures c.if-have-lt4.false good, omega arith)
