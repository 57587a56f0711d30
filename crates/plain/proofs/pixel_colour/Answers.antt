use mathlib.Core.Path.{sym, ap₂, ◌∙◌}
use Rattle.row_pixels.specs.Composite.{composite}
use Rattle.raster.proofs.Pixel.{pixel_blended}
use Rattle.plain.proofs.Inside.{source_pixel_lem, destination_pixel}
use borrow.Author.Rules.{rules}
use Rattle.plain.proofs.pixel_colour.Goals as goal

pub source_colour-s-requires : goal.source_colour-s-requires
source_colour-s-requires c = search (rules, source_pixel_lem)

pub destination_colour-d-requires : goal.destination_colour-d-requires
destination_colour-d-requires c =
    let a = c.args in
    destination_pixel a.memory.now a.task a.x a.y c.requires c.if-task.true

pub returns-then-task : goal.returns-then-task
returns-then-task c =
    let a = c.args in
    c.composite.ensures
    ∙ (ap₂ (composite a.task.blending a.task.source.alpha a.task.destination.alpha) c.source_colour-s.ensures c.destination_colour-d.ensures
    ∙ sym (pixel_blended a.task a.memory.now a.x a.y c.if-task.true))
