use Rattle.std.proofs.Common.{◌≡◌, refl, rules}
use Rattle.kinds.specs.Kinds.{kind_of}
use Rattle.kinds.specs.declared.Kind.TheVariants.{Solid}
use Rattle.solid_rows.specs.Row.{solid_colour}
use Rattle.raster.specs.Row.{RowDrawable}
use Rattle.raster.proofs.Steps.{draws_rows}
use Rattle.raster.proofs.Upto.{row_drawable}
use Rattle.solid_rows.proofs.draw_solid.Goals as goal

pub draw_rows-requires-clause-draws : goal.draw_rows-requires-clause-draws
draw_rows-requires-clause-draws c =
    draws_rows _ _ _ (λ f. (f.0.now ≡ c.args.window) × (f.1.now ≡ c.args.task) × (f.2.now.colour ≡ solid_colour c.args.task))
    (λ f h memory y s l p e.
    let r : RowDrawable f.0.now p.now f.1.now y × (kind_of f.0.now f.1.now ≡ Solid) × (f.2.now.colour ≡ solid_colour f.1.now) = rw (h.0, h.1, e) (row_drawable memory y c.requires.0 s l, c.requires.1, h.2) in
    search rules)
    (λ f h memory y s l f' memory' e. search rules) _ (refl, refl, c.colour_of-solid.ensures)
