use Rattle.plan.proofs.channels.Channels.{over-duo}
use borrow.Author.Rules.{rules}
use Rattle.plan.proofs.channels.over_two.Goals as goal

pub returns : goal.returns
returns c = over-duo _ _ _ _ _ (search rules) c.left.ensures.0 c.left-2.ensures.0
