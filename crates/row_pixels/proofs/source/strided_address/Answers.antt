use native.Mathlib.Omega.{arith}
use Rattle.row_pixels.proofs.source.strided_address.Goals as goal

pub overflow_mul-result : goal.overflow_mul-result
overflow_mul-result c = omega (arith, c.requires.0 c.if-back.true)

pub overflow_sub-result : goal.overflow_sub-result
overflow_sub-result c = c.requires.0 c.if-back.true

pub overflow_mul-result-else-back : goal.overflow_mul-result-else-back
overflow_mul-result-else-back c = omega (arith, c.requires.1 c.if-back.false)

pub overflow_add-result : goal.overflow_add-result
overflow_add-result c = omega (arith, c.requires.1 c.if-back.false)

pub returns-then-back : goal.returns-then-back
returns-then-back c = rw c.if-back.true

pub returns-else-back : goal.returns-else-back
returns-else-back c = rw c.if-back.false
