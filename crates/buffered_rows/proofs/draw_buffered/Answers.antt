use Rattle.std.proofs.Common.{◌≡◌, refl, rules}
use Rattle.buffered_rows.specs.Row.{RowBuffers}
use Rattle.raster.specs.Row.{RowDrawable}
use Rattle.raster.proofs.Steps.{draws_rows}
use Rattle.raster.proofs.Upto.{row_drawable}
use Rattle.buffered_rows.proofs.draw_buffered.Goals as goal

pub draw_rows-requires-clause-draws : goal.draw_rows-requires-clause-draws
draw_rows-requires-clause-draws c =
    draws_rows _ _ _ (λ f. (f.0.now.task ≡ c.args.task) × (f.1.now ≡ c.args.window) × RowBuffers c.args.task f.2.now f.3.now)
    (λ f h memory y s l p e.
    let r : RowDrawable f.1.now p.now f.0.now.task y × RowBuffers f.0.now.task f.2.now f.3.now = rw (h.0, h.1, e) (row_drawable memory y c.requires.0 s l, h.2) in
    search rules)
    (λ f h memory y s l f' memory' e. search rules) _ (c.new-planned.ensures, refl, record { source = c.requires.1; destination = c.requires.2 })
