use native.Mathlib.Omega.{arith}
use Rattle.lanes.specs.Lanes.{two}
use Rattle.lanes.proofs.get2.Goals as goal

pub returns : goal.returns
unfolding two
returns c = omega arith
