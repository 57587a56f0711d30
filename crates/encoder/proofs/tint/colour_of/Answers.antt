use Rattle.encoder.specs.Tint.{tint_colour}
use Rattle.encoder.proofs.tint.colour_of.Goals as goal

pub returns : goal.returns
unfolding tint_colour
returns c = simp (c.channel_of-3.ensures, c.channel_of-2.ensures, c.channel_of.ensures)
