use Rattle.std.proofs.Common.{◌≡◌, refl, rules}
use Rattle.raster.proofs.Steps.{draws_rows}
use Rattle.plain.specs.Pixel.{Row}
use Rattle.plain.proofs.draw_task.Goals as goal

pub draw_rows-requires-clause-draws : goal.draw_rows-requires-clause-draws
draw_rows-requires-clause-draws c =
    draws_rows _ _ _ (λ f. f.0.now ≡ c.args.task)
    (λ f h memory y s l p e.
    let r : Row p.now f.0.now y = rw (h, e) (record { whole = rw s c.requires; row = l }) in
    search rules)
    (λ f h memory y s l f' memory' e. search rules) _ refl
