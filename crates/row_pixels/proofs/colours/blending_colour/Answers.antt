use Rattle.row_pixels.proofs.colours.blending_colour.Goals as goal

pub returns : goal.returns
returns c = simp (c.with_alpha.ensures, c.source_for_blending.ensures)
