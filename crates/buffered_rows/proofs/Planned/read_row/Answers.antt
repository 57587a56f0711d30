use mathlib.Core.Path.{◌≡◌, sym, ap, ap₂, ◌∙◌}
use mathlib.Core.Logic.{⊎_elim}
use Prim.Native.Nat.{ℕ, ◌+◌, ◌*◌}
use native.Mathlib.Omega.{arith}
use Rattle.pixel.specs.Formats.{bytes_per_pixel}
use Rattle.surface.specs.Drawn.{load_pixel}
use Rattle.row_pixels.specs.Row.{colour_at}
use Rattle.row_pixels.specs.Composite.{composite}
use Rattle.kinds.specs.declared.Finish.TheVariants.{Copied, InPlace, Blended}
use Rattle.raster.proofs.Parts.{of-finish}
use Rattle.raster.specs.Task.{destination_colour}
use Rattle.raster.proofs.Pixel.{pixel_blended}
use Rattle.buffered_rows.proofs.Planned.read_row.Goals as goal

pub returns-in-Copied : goal.returns-in-Copied
returns-in-Copied c =
    ⊎_elim
    (λ (e : c.args.self.now.finish ≡ Copied). rw e c.fetch_source.ensures)
    (λ (e : c.args.self.now.finish ≡ InPlace). rw e c.fetch_source.ensures)
    c.in-Copied.is

pub fetch_row-requires : goal.fetch_row-requires
fetch_row-requires c =
    let on = of-finish c.args.self.now.task Blended (sym c.in-Blended.is ∙ c.args.self.now.of_task) in
    (omega (arith, c.row_start-from.ensures, c.requires.0.destination on), omega (arith, c.requires.1.destination))

pub returns-in-Blended : goal.returns-in-Blended
unfolding destination_colour colour_at
returns-in-Blended c =
    let a = c.args in
    let d = a.self.now.task.destination.surface in
    let finish-is = c.in-Blended.is in
    let on = of-finish a.self.now.task Blended (sym finish-is ∙ c.args.self.now.of_task) in
    rw finish-is
    (λ x l.
    c.blend_row.ensures x l
    ∙ (ap₂ (composite a.self.now.task.blending a.self.now.task.source.alpha a.self.now.task.destination.alpha)
    (c.fetch_source.ensures x l)
    (c.fetch_row.ensures x l ∙ ap (λ (i : ℕ). load_pixel d.format a.memory.now (i + x * bytes_per_pixel d.format)) c.row_start-from.ensures)
    ∙ sym (pixel_blended a.self.now.task a.memory.now x a.y on)))
