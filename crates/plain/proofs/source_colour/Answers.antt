use mathlib.Core.Path.{sym, ap, ◌∙◌}
use native.Mathlib.Omega.{arith}
use Rattle.transform.specs.Transform.{InPicture}
use Rattle.transform.specs.declared.Point.{Point}
use Rattle.register.specs.Size.{size_of}
use Rattle.row_pixels.proofs.Straight.{point_within}
use Rattle.pixel.specs.Gradient.{gradient_colour}
use Rattle.surface.specs.Drawn.{load_pixel}
use Rattle.register.specs.Task.{is_buffer}
use Rattle.register.specs.declared.task.SourceMode.{SourceMode}
use Rattle.row_pixels.specs.Row.{colour_at, source_pixel_of}
use Rattle.raster.specs.Task.{source_mode_colour, source_colour}
use Rattle.plain.proofs.Inside.{source-read}
use Rattle.plain.proofs.source_colour.Goals as goal

pub load-requires : goal.load-requires
load-requires c =
    let a = c.args in
    rw c.origin-at.ensures (source-read a.memory.now a.source a.x a.y c.requires (ap is_buffer c.in-Buffer.is))

pub returns-in-Buffer : goal.returns-in-Buffer
unfolding source_colour colour_at
returns-in-Buffer c =
    let a = c.args in
    c.load.ensures
    ∙ (ap (load_pixel a.source.surface.format a.memory.now) c.origin-at.ensures
    ∙ sym (ap (λ (m : SourceMode). source_mode_colour m a.source a.memory.now (source_pixel_of a.source.surface a.source.transform a.x a.y)) c.in-Buffer.is))

pub returns-in-Colour : goal.returns-in-Colour
unfolding source_colour
returns-in-Colour c =
    let a = c.args in
    sym (ap (λ (m : SourceMode). source_mode_colour m a.source a.memory.now (source_pixel_of a.source.surface a.source.transform a.x a.y)) c.in-Colour.is)

pub overflow_cast-p : goal.overflow_cast-p
overflow_cast-p c =
    let a = c.args in
    let w : InPicture (size_of a.source.surface) c.source_point-p.result = rw c.source_point-p.ensures (point_within a.source.surface a.source.transform a.x a.y c.requires.within) in
    omega (arith, w.across)

pub overflow_cast-p-in-GradientY : goal.overflow_cast-p-in-GradientY
overflow_cast-p-in-GradientY c =
    let a = c.args in
    let w : InPicture (size_of a.source.surface) c.source_point-p-in-GradientY.result = rw c.source_point-p-in-GradientY.ensures (point_within a.source.surface a.source.transform a.x a.y c.requires.within) in
    omega (arith, w.down)

pub returns-in-GradientX : goal.returns-in-GradientX
unfolding source_colour
returns-in-GradientX c =
    let a = c.args in
    c.colour_at.ensures
    ∙ (ap (λ (p : Point). gradient_colour a.source.colour a.source.steps p.x) c.source_point-p.ensures
    ∙ sym (ap (λ (m : SourceMode). source_mode_colour m a.source a.memory.now (source_pixel_of a.source.surface a.source.transform a.x a.y)) c.in-GradientX.is))

pub returns-in-GradientY : goal.returns-in-GradientY
unfolding source_colour
returns-in-GradientY c =
    let a = c.args in
    c.colour_at-in-GradientY.ensures
    ∙ (ap (λ (p : Point). gradient_colour a.source.colour a.source.steps p.y) c.source_point-p-in-GradientY.ensures
    ∙ sym (ap (λ (m : SourceMode). source_mode_colour m a.source a.memory.now (source_pixel_of a.source.surface a.source.transform a.x a.y)) c.in-GradientY.is))
