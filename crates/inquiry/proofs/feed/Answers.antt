use Prim.Native.Nat.{ℕ}
use mathlib.Core.Path.{refl, sym, subst}
use Rattle.records.specs.declared.Edition.TheVariants.{First}
use Rattle.records.specs.Reading.{Lies}
use Rattle.inquiry.proofs.Answering.{feeds_by}
use Rattle.inquiry.proofs.feed.Goals as goal

pub after_found-requires : goal.after_found-requires
after_found-requires c = let t = c.take-taken in subst (λ (n : ℕ). Lies First t.result.found n) (sym t.auto.held) t.ensures.1

pub returns : goal.returns
returns c =
    let a = c.args in
    let t = c.take-taken in
    (t.ensures.0, λ seen S. feeds_by a.question seen a.held.now a.input.now _ a.inquiry t.result _ c.after_found.result c.after_found.ensures refl t.ensures.2 S)
