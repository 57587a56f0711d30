use Rattle.division.specs.Division.{div255}
use Rattle.pixel.specs.Blending.{blended_channel}
use Rattle.plan.proofs.channels.mix_one.Goals as goal

pub returns : goal.returns
unfolding blended_channel div255
returns c = c.two_products.ensures.0
