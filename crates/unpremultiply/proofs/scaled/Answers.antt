use Prim.Native.Nat.{◌*◌, ◌≤◌}
use native.Mathlib.Nat.{mul-le-mul}
use native.Mathlib.Omega.{arith}
use Rattle.unpremultiply.proofs.scaled.Goals.{Start}
use Rattle.unpremultiply.proofs.scaled.Goals as goal

small : (c : Start) → c.args.c * c.args.t ≤ 4261478400
small c = mul-le-mul {n₂ = 255} {m₂ = 16711680} (omega arith) c.requires

pub overflow_mul-n : goal.overflow_mul-n
overflow_mul-n c = omega (arith, small c)

pub overflow_add-n : goal.overflow_add-n
overflow_add-n c = omega (arith, small c)
