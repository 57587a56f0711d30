use Rattle.unpremultiply.specs.Unpremultiply.{unpremultiplied_channel}
use Rattle.unpremultiply.proofs.unpremultiply.Goals as goal

pub returns : goal.returns
unfolding unpremultiplied_channel
returns c = simp (c.scaled-3.ensures, c.scaled-2.ensures, c.scaled.ensures, c.reciprocal-t.ensures.0)
