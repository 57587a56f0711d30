use mathlib.Core.Path.{ap₂, ◌∙◌}
use Rattle.surface.specs.Drawn.{store_pixel}
use Rattle.plain.proofs.Inside.{output-inside}
use Rattle.plain.proofs.draw_pixel.Goals as goal

pub store-requires : goal.store-requires
store-requires c =
    let a = c.args in
    rw c.pixel_start.ensures (output-inside a.memory.now a.task a.x a.y c.requires)

pub returns : goal.returns
returns c =
    let a = c.args in
    c.store.ensures ∙ ap₂ (store_pixel a.task.output.format a.memory.now) c.pixel_start.ensures c.pixel_colour-c.ensures
