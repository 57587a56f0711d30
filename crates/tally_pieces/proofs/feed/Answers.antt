use Prim.Native.Nat.{ℕ}
use mathlib.Core.Path.{refl, sym, subst}
use native.Mathlib.Omega.{arith}
use Rattle.records.specs.Reading.{Lies}
use borrow.Author.Tests.{eq-eqb}
use Rattle.tally.proofs.Files.{feeds-none, feeds_by, fed_is}
use Rattle.tally_pieces.proofs.feed.Goals as goal

pub returns-then-input-eq0 : goal.returns-then-input-eq0
returns-then-input-eq0 c =
    let a = c.args in
    let none = eq-eqb _ 0 c.if-input-eq0.true in
    (omega arith, rw none, rw none, λ totals seen S. feeds-none totals seen a.input.now a.held.now a.tally c.if-input-eq0.true S)

pub add_found-next-requires : goal.add_found-next-requires
add_found-next-requires c =
    let t = c.take-taken in
    subst (λ (n : ℕ). Lies c.edition_for-edition.result t.result.found n) (sym t.auto.held) t.ensures.1

pub returns : goal.returns
returns c =
    let a = c.args in
    let t = c.take-taken in
    let edition = c.edition_for-edition in
    let some = c.if-input-eq0.false in
    let fed = fed_is a.tally a.held.now a.input.now _ edition.result t.result c.add_found-next.result some edition.ensures t.ensures.3 t.ensures.4 c.add_found-next.ensures in
    (t.ensures.0, fed.0, fed.1, λ totals seen S. feeds_by totals seen a.held.now a.input.now _ a.tally edition.result t.result (omega (arith, some)) edition.ensures t.ensures.2 t.auto.held S _ c.add_found-next.result c.add_found-next.ensures refl)
