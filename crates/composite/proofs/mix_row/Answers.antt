use Rattle.composite.proofs.Colours.{mix_is, global_alphas}
use mathlib.Core.Path.{◌∙◌}
use native.Mathlib.Omega.{arith}
use Rattle.composite.proofs.mix_row.Goals as goal

pub blend_prepared-requires : goal.blend_prepared-requires
blend_prepared-requires c = (
  (omega (arith, c.requires.wide, c.requires.room, c.prepare_row.auto.row, c.alpha_row.auto.row, c.alpha_row-2.auto.row), omega (arith, c.requires.wide, c.alpha_row-2.auto.row)),
  λ is j l. global_alphas c.args.source _ _ c.args.width c.alpha_row.ensures is j (omega (arith, c.requires.wide, c.alpha_row-2.auto.row)),
)

pub returns : goal.returns
returns c =
    mix_is c.args.blending c.args.source c.args.destination c.args.p.rule c.args.s.now c.prepare_row.new.row c.alpha_row.new.row c.args.d.now c.alpha_row-2.new.row c.blend_prepared.new.d c.args.width
    (λ j. omega (arith, c.slice_known-2-1.given j)) (λ j. omega (arith, c.slice_known-3-1.given j)) (λ j. omega (arith, c.slice_known-4-1.given j)) (λ j. omega (arith, c.slice_known-1.given j)) (λ j. omega (arith, c.slice_known-5-1.given j)) (λ j. omega (arith, c.slice_known-6-1.given j))
    c.prepare_row.ensures
    c.requires.room c.prepare_row.auto.row c.alpha_row.auto.row c.requires.wide c.alpha_row-2.auto.row (c.blend_prepared.auto.d ∙ c.alpha_row-2.auto.row) c.requires.rule
    c.alpha_row.ensures c.alpha_row-2.ensures c.blend_prepared.ensures
