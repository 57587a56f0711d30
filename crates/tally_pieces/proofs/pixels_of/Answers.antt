use native.Mathlib.Omega.{arith}
use Rattle.tally.proofs.Adding.{pixels_small}
use Rattle.tally_pieces.proofs.pixels_of.Goals as goal

pub overflow_mul-result : goal.overflow_mul-result
overflow_mul-result c = let small = pixels_small c.args.width c.args.height (omega arith) (omega arith) in omega (arith, small)
