use native.Mathlib.Omega.{arith}
use Rattle.division.proofs.div_255.Goals as goal

pub returns : goal.returns
returns c = omega arith
