use Rattle.convert.proofs.rgb888.Pixels.{three_set}
use native.Mathlib.Omega.{arith}
use borrow.Author.Rules.{rules}
use lib.ListN.{length-set}
use Rattle.convert.proofs.rgb888.put_three.Goals as goal

pub bounds-d-o-2 : goal.bounds-d-o-2
bounds-d-o-2 c = simp length-set (omega arith)

pub bounds-d-o-3 : goal.bounds-d-o-3
bounds-d-o-3 c = simp length-set (omega arith)

pub returns : goal.returns
returns c = three_set _ _ _ _ _ (search rules)
