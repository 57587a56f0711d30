use mathlib.Core.Path.{refl}
use lib.Ieee.{of_bits}
use Rattle.score.specs.Coverage.{is_score}
use Rattle.score.proofs.is_score.Goals as goal

pub returns : goal.returns
unfolding is_score of_bits
returns c = refl
