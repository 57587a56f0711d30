use mathlib.Core.Path.{ap, ◌∙◌}
use Rattle.surface.specs.Drawn.{load_pixel}
use Rattle.row_pixels.specs.Row.{colour_at}
use Rattle.raster.specs.Task.{destination_colour}
use Rattle.plain.proofs.Inside.{destination-read}
use Rattle.plain.proofs.destination_colour.Goals as goal

pub load-requires : goal.load-requires
load-requires c =
    let a = c.args in
    rw c.pixel_start.ensures (destination-read a.memory.now a.destination a.x a.y c.requires)

pub returns : goal.returns
unfolding destination_colour colour_at
returns c =
    let a = c.args in
    c.load.ensures ∙ ap (load_pixel a.destination.surface.format a.memory.now) c.pixel_start.ensures
