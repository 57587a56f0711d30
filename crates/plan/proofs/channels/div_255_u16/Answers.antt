use borrow.Author.Rules.{rules}
use Rattle.plan.proofs.channels.Channels.{nearest}
use Rattle.plan.proofs.channels.div_255_u16.Goals as goal

pub returns : goal.returns
returns c = (nearest c.args.p (search rules), search rules)
