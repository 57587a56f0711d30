use mathlib.Core.Path.{refl}
use lib.Ieee.{nan_bits}
use Rattle.score.proofs.bits.is_nan.Goals as goal

pub returns : goal.returns
unfolding nan_bits
returns c = refl
