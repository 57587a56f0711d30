use Rattle.division.specs.Division.{div255}
use Rattle.pixel.specs.Blending.{blended_channel}
use Rattle.plan.specs.Blend.{duo}
use borrow.Author.Rules.{rules}
use Rattle.plan.proofs.channels.two_by_factors.Goals as goal

pub returns : goal.returns
unfolding duo blended_channel div255
returns c = search rules
