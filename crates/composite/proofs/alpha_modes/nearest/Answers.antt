use Rattle.division.specs.Division.{div255}
use borrow.Author.Rules.{rules}
use Rattle.composite.proofs.alpha_modes.nearest.Goals as goal

pub returns : goal.returns
unfolding div255
returns c = search rules
