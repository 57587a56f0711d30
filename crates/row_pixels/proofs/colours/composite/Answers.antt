use Rattle.row_pixels.specs.Composite.{composite}
use Rattle.row_pixels.proofs.colours.composite.Goals as goal

pub returns : goal.returns
unfolding composite
returns c = simp (c.blend.ensures, c.with_alpha.ensures, c.blending_colour.ensures)
