use borrow.Author.Rules.{rules}
use Rattle.surface.specs.Overlap.{surfaces_overlap}
use Rattle.surface.proofs.overlap.Overlap.{rows-turned}
use Rattle.surface.proofs.overlap.surfaces_overlap.Goals as goal

-- no test is named: an edit that changes one is then refused for what is false, and not for a name that is gone
pub returns : goal.returns
unfolding surfaces_overlap
returns c = search (rules, rows-turned c.args.a c.args.b)
