use mathlib.Core.Path.{ap, ◌∙◌}
use native.Mathlib.Omega.{arith}
use Rattle.transform.specs.Transform.{InPicture}
use Rattle.transform.specs.declared.Point.{Point}
use Rattle.surface.specs.Surface.{pixel_start}
use Rattle.register.specs.Size.{size_of}
use Rattle.row_pixels.proofs.Straight.{point_within}
use Rattle.row_pixels.proofs.source.origin.Goals.{After-source_point-p}
use Rattle.row_pixels.proofs.source.origin.Goals as goal

-- the source pixel is one of the surface's
inside : (c : After-source_point-p) → InPicture (size_of c.args.s) c.source_point-p.result
inside c =
    let a = c.args in
    rw c.source_point-p.ensures (point_within a.s a.transform a.x a.y c.requires)

pub overflow_cast-p : goal.overflow_cast-p
overflow_cast-p c = omega (arith, (inside (goal.at.overflow_cast-p c).After-source_point-p).across)

pub overflow_cast-p-2 : goal.overflow_cast-p-2
overflow_cast-p-2 c = omega (arith, (inside (goal.at.overflow_cast-p-2 c).After-source_point-p).down)

pub returns : goal.returns
returns c =
    c.pixel_start.ensures ∙ ap (λ (p : Point). pixel_start c.args.s p.x p.y) c.source_point-p.ensures
