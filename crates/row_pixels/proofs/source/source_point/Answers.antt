use Rattle.row_pixels.specs.Row.{source_pixel_of}
use Rattle.row_pixels.proofs.source.source_point.Goals as goal

pub returns : goal.returns
unfolding source_pixel_of
returns c = c.source_of.ensures
