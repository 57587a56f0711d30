use Rattle.std.proofs.Common.{◌≡◌, refl, rules}
use Rattle.kinds.specs.Kinds.{kind_of}
use Rattle.kinds.specs.declared.Kind.TheVariants.{Within}
use Rattle.raster.specs.Row.{RowDrawable}
use Rattle.raster.proofs.Steps.{draws_rows}
use Rattle.raster.proofs.Upto.{row_drawable}
use Rattle.within_rows.proofs.draw_within.Goals as goal

pub draw_rows-requires-clause-draws : goal.draw_rows-requires-clause-draws
draw_rows-requires-clause-draws c =
    draws_rows _ _ _ (λ f. (f.0 ≡ c.args.window) × (f.1 ≡ c.args.task) × (f.2.rule ≡ c.args.task.blending.rule))
    (λ f h memory y s l p e.
    let r : RowDrawable f.0 p.now f.1 y × (kind_of f.0 f.1 ≡ Within) × (f.2.rule ≡ f.1.blending.rule) = rw (h.0, h.1, e) (row_drawable memory y c.requires.0 s l, c.requires.1, h.2) in
    search rules)
    (λ f h memory y s l f' memory' e. search rules) _ (refl, refl, c.plan_of-plan.ensures)
