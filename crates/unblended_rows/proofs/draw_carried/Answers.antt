use Rattle.std.proofs.Common.{◌≡◌, refl, rules}
use Rattle.kinds.specs.Kinds.{kind_of}
use Rattle.kinds.specs.declared.Kind.TheVariants.{Carried}
use Rattle.raster.specs.Row.{RowDrawable, HoldsRow}
use Rattle.raster.proofs.Steps.{draws_rows}
use Rattle.raster.proofs.Upto.{row_drawable}
use Rattle.unblended_rows.proofs.draw_carried.Goals as goal

pub draw_rows-requires-clause-draws : goal.draw_rows-requires-clause-draws
draw_rows-requires-clause-draws c =
    draws_rows _ _ _ (λ f. (f.0.now ≡ c.args.window) × (f.1.now ≡ c.args.task) × HoldsRow c.args.task.output.width f.2.now)
    (λ f h memory y s l p e.
    let r : RowDrawable f.0.now p.now f.1.now y × HoldsRow f.1.now.output.width f.2.now × (kind_of f.0.now f.1.now ≡ Carried) = rw (h.0, h.1, e) (row_drawable memory y c.requires.0 s l, h.2, c.requires.2) in
    search rules)
    (λ f h memory y s l f' memory' e. search rules) _ (refl, refl, c.requires.1)
