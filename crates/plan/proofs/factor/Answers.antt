use Rattle.plan.specs.Plan.{factor_by}
use borrow.Author.Rules.{rules}
use Rattle.plan.proofs.factor.Goals as goal

pub returns : goal.returns
unfolding factor_by
returns c = search rules
