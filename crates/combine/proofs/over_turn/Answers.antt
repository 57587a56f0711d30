use Rattle.pixel.specs.Rules.{blend_mode_factors}
use Rattle.pixel.specs.declared.blend.BlendMode.TheVariants.{SrcOver}
use Rattle.combine.proofs.Fours.{copy_done, clear-done, add_done}
use mathlib.Core.Path.{refl, sym, ◌∙◌}
use borrow.Author.Tests.{eq-eqb}
use Rattle.lanes.proofs.opacity.Sums.{full_sum, empty-sum}
use Rattle.plan.proofs.Blends.{Bytes}
use native.Mathlib.Omega.{arith}
use Rattle.combine.proofs.over_turn.Goals as goal

pub returns-then-is_opaque : goal.returns-then-is_opaque
returns-then-is_opaque c =
    let a = c.args in
    let in-s : Bytes a.s.now = λ j. omega (arith, c.shared_slice_known-1.given j) in
    copy_done (blend_mode_factors SrcOver) a.s.now a.d.now _ a.o c.requires.1 in-s (λ j. omega (arith, c.slice_known-1.given j))
    (λ y. (refl, refl)) (sym (full_sum a.s.now a.o _ in-s c.alphas-t.ensures) ∙ (sym c.is_opaque.ensures ∙ c.if-is_opaque.true)) c.copy.ensures

pub returns-then-words-eq0 : goal.returns-then-words-eq0
returns-then-words-eq0 c =
    let a = c.args in
    let in-s : Bytes a.s.now = λ j. omega (arith, c.shared_slice_known-1.given j) in
    clear-done (blend_mode_factors SrcOver) a.s.now a.d.now a.d.now a.o c.requires.1 in-s (λ j. omega (arith, c.slice_known-1.given j))
    (c.words.ensures c.if-words-eq0.true)

pub returns-then-t-eq0 : goal.returns-then-t-eq0
returns-then-t-eq0 c =
    let a = c.args in
    let in-s : Bytes a.s.now = λ j. omega (arith, c.shared_slice_known-1.given j) in
    add_done (blend_mode_factors SrcOver) a.s.now a.d.now _ a.o c.requires.1 in-s (λ j. omega (arith, c.slice_known-1.given j))
    (sym (empty-sum a.s.now a.o _ in-s c.alphas-t.ensures) ∙ eq-eqb _ 0 c.if-t-eq0.true) c.add_bytes.ensures
