use mathlib.Core.Path.{refl, sym, ◌∙◌}
use native.Mathlib.Omega.{arith}
use borrow.Author.Tests.{eq-eqb}
use Rattle.lanes.proofs.opacity.Sums.{full_sum, empty-sum}
use Rattle.plan.proofs.Blends.{Bytes}
use Rattle.pixel.specs.Rules.{blend_mode_factors}
use Rattle.pixel.specs.declared.blend.BlendMode.TheVariants.{SrcOver}
use Rattle.within_rows.proofs.blend.Fours.{opaque-within, clear_within, add_within}
use Rattle.within_rows.proofs.blend.over_turn.Goals as goal

pub returns-then-is_opaque : goal.returns-then-is_opaque
returns-then-is_opaque c =
    let a = c.args in
    let in-m : Bytes a.m.now = λ j. omega (arith, c.slice_known-1.given j) in
    opaque-within (blend_mode_factors SrcOver) a.m.now _ a.to a.from in-m (λ y. (refl, refl))
    (sym (full_sum a.m.now a.from _ in-m c.alphas-t.ensures) ∙ (sym c.is_opaque.ensures ∙ c.if-is_opaque.true)) c.copy_block.ensures

pub returns-then-words-eq0 : goal.returns-then-words-eq0
returns-then-words-eq0 c =
    let a = c.args in
    clear_within (blend_mode_factors SrcOver) a.m.now a.m.now a.to a.from (λ j. omega (arith, c.slice_known-1.given j)) (c.words.ensures c.if-words-eq0.true)

pub returns-then-t-eq0 : goal.returns-then-t-eq0
returns-then-t-eq0 c =
    let a = c.args in
    let in-m : Bytes a.m.now = λ j. omega (arith, c.slice_known-1.given j) in
    add_within (blend_mode_factors SrcOver) a.m.now _ a.to a.from in-m
    (sym (empty-sum a.m.now a.from _ in-m c.alphas-t.ensures) ∙ eq-eqb _ 0 c.if-t-eq0.true) c.add_bytes.ensures
