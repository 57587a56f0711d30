-- Products of two bytes, and what is left of them after division by 255.
use Prim.Native.Nat.{ℕ, ◌*◌, ◌≤◌}
use native.Mathlib.Nat.{mul-le-mul}
use native.Mathlib.Omega.{arith}
use Rattle.division.specs.Division.{div255}

pub product_small : (x f : ℕ) → x ≤ 255 → f ≤ 255 → x * f ≤ 65025
product_small x f a b = mul-le-mul a b

near_small : (p : ℕ) → p ≤ 65025 → div255 p ≤ 255
unfolding div255
near_small p h = omega arith

-- a byte scaled by a byte is a byte
pub scaled_byte : (x f : ℕ) → x ≤ 255 → f ≤ 255 → div255 (x * f) ≤ 255
scaled_byte x f a b = near_small (x * f) (product_small x f a b)
