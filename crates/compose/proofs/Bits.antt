-- How much the bits of a setting come to.
use mathlib.Core.Bool.{Bool, true, false}
use Prim.Native.Nat.{ℕ, ◌≤◌}
use native.Mathlib.Omega.{arith}
use Rattle.transform.specs.declared.Rotation.{Rotation}
use Rattle.transform.specs.declared.Rotation.TheVariants.{Rotate0, Rotate90, Rotate180, Rotate270}
use Rattle.transform.specs.Transform.{turns}
use Rattle.orientation.specs.Bits.{weight}

pub weight_most : (on : Bool) (n : ℕ) → weight on n ≤ n
weight_most true n = omega arith
weight_most false n = omega arith

pub turns_most : (r : Rotation) → turns r ≤ 3
turns_most Rotate0 = omega arith
turns_most Rotate90 = omega arith
turns_most Rotate180 = omega arith
turns_most Rotate270 = omega arith
