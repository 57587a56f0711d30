use Rattle.division.specs.Division.{div255}
use Rattle.pixel.specs.Blending.{blended_channel}
use borrow.Author.Rules.{rules}
use Rattle.plan.proofs.channels.held_sum.Goals as goal

pub returns-then-a-b : goal.returns-then-a-b
unfolding blended_channel div255
returns-then-a-b c = search rules

pub returns-else-a-b : goal.returns-else-a-b
unfolding blended_channel div255
returns-else-a-b c = search rules
