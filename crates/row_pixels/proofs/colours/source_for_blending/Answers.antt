use Rattle.row_pixels.proofs.colours.source_for_blending.Goals as goal

pub returns-then-blending : goal.returns-then-blending
returns-then-blending c = rw c.if-blending.true c.unpremultiply.ensures
