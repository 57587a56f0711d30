use mathlib.Core.Path.{ap}
use Prim.Native.Nat.{ℕ, ◌-◌}
use lib.Ieee.{of_bits}
use Rattle.score.specs.Coverage.{product, coverage_of}
use Rattle.score.proofs.coverage_of.Goals as goal

pub returns : goal.returns
unfolding coverage_of product of_bits
returns c = ap (λ (a : ℕ). 255 - a) c.greatest.ensures
