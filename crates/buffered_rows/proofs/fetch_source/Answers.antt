use mathlib.Core.Path.{sym, ap, ◌∙◌}
use Rattle.register.specs.Task.{is_buffer}
use Rattle.register.specs.declared.task.SourceMode.{SourceMode}
use Rattle.row_pixels.specs.Row.{source_pixel_of}
use Rattle.raster.specs.Task.{source_mode_colour, source_colour}
use Rattle.kinds.specs.Predicates.{is_uniform}
use Rattle.raster.specs.Row.{uniform_colour}
use Rattle.raster.proofs.Pixel.{upright-across, upright-down, source-across, source_uniform}
use Rattle.buffered_rows.proofs.fetch_source.Goals as goal

pub fetch_transformed-requires : goal.fetch_transformed-requires
fetch_transformed-requires c =
    let p = c.requires in
    record { inside = p.inside (ap is_buffer c.in-Buffer.is); across = p.across; down = p.down; room = p.room }

pub returns-in-Buffer : goal.returns-in-Buffer
unfolding source_colour
returns-in-Buffer c =
    let a = c.args in
    λ x z.
    c.fetch_transformed.ensures x z
    ∙ sym (ap (λ (m : SourceMode). source_mode_colour m a.source a.memory.now (source_pixel_of a.source.surface a.source.transform x a.y)) c.in-Buffer.is)

pub returns-in-Colour : goal.returns-in-Colour
returns-in-Colour c =
    let a = c.args in
    λ x z.
    c.fill_buffer.ensures x z
    ∙ (sym (ap (λ (m : SourceMode). uniform_colour m a.source a.y) c.in-Colour.is)
    ∙ source_uniform a.source a.memory.now x a.y (ap is_uniform c.in-Colour.is) c.requires.upright)

pub fetch_gradient-requires : goal.fetch_gradient-requires
fetch_gradient-requires c =
    (c.requires.room, upright-across c.args.source (c.requires.upright (ap is_buffer c.in-GradientX.is)) c.args.width c.requires.across)

pub returns-in-GradientX : goal.returns-in-GradientX
returns-in-GradientX c =
    let a = c.args in
    let is = c.in-GradientX.is in
    λ x z.
    c.fetch_gradient.ensures x z
    ∙ source-across a.source a.memory.now x a.y is (c.requires.upright (ap is_buffer is))

pub shaded_colour-requires : goal.shaded_colour-requires
shaded_colour-requires c =
    upright-down c.args.source (c.requires.upright (ap is_buffer c.in-GradientY.is)) c.args.y c.requires.down

pub returns-in-GradientY : goal.returns-in-GradientY
returns-in-GradientY c =
    let a = c.args in
    λ x z.
    c.fill_buffer-in-GradientY.ensures x z
    ∙ (c.shaded_colour.ensures
    ∙ (sym (ap (λ (m : SourceMode). uniform_colour m a.source a.y) c.in-GradientY.is)
    ∙ source_uniform a.source a.memory.now x a.y (ap is_uniform c.in-GradientY.is) c.requires.upright))
