-- Signed numbers: their magnitudes, and what the machine reads back.
use mathlib.Core.Path.{◌≡◌, refl, subst}
use mathlib.Core.Bool.{cond, Bool, true, false}
use Prim.Native.Nat.{zero, zero-le, ℕ, suc, ◌+◌, ◌*◌, ◌-◌, ◌≤◌, ◌<◌}
use native.Mathlib.Nat.{le_refl, lt_of_le_of_lt, mul-le-mul}
use native.Mathlib.Omega.{arith}
use lib.IntN.{◌-ℤ◌, ℤ, pos, negsuc, neg_ℤ, ◌+ℤ◌, ◌*ℤ◌}
use lib.Dec.{ltb}
use lib.Signed.{shr_z, mag, mag_shr}
use mir.Syntax.{w64}
use mir.Val.{SFits, to_z}
use mir.ValLaws.{to_z-of_z}
use Rattle.pixel.specs.Gradient.{signed_step, rounded_down}

-- a number below 2 ^ 63, as the machine reads it back
pub plain : (n : ℕ) → n < 9223372036854775808 → to_z w64 n ≡ pos n
plain n h = to_z-of_z w64 (pos n) (record { sfits = h })

pub floor_is : (v : ℤ) → shr_z v 65536 ≡ rounded_down v
floor_is (pos n) = refl
floor_is (negsuc n) = refl

mag_neg : (r b : ℕ) → r ≤ b → mag (neg_ℤ (pos r)) ≤ b
mag_neg zero b h = zero-le
mag_neg (suc k) b h = omega arith

mag-cond : (t : Bool) (x y : ℤ) (b : ℕ) → mag x ≤ b → mag y ≤ b → mag (cond t x y) ≤ b
mag-cond true x y b p q = p
mag-cond false x y b p q = q

pub mag_sum : (x y : ℤ) (a b : ℕ) → mag x ≤ a → mag y ≤ b → mag (x +ℤ y) ≤ suc (a + b)
mag_sum (pos m) (pos n) a b p q = omega arith
mag_sum (pos m) (negsuc n) a b p q = mag-cond (ltb m (suc n)) (negsuc (suc n - suc m)) (pos (m - suc n)) (suc (a + b)) (omega arith) (omega arith)
mag_sum (negsuc m) (pos n) a b p q = mag-cond (ltb n (suc m)) (negsuc (suc m - suc n)) (pos (n - suc m)) (suc (a + b)) (omega arith) (omega arith)
mag_sum (negsuc m) (negsuc n) a b p q = omega arith

pub mag_prod : (x : ℤ) (n a b : ℕ) → mag x < a → n ≤ b → mag (x *ℤ pos n) ≤ a * b
mag_prod (pos m) n a b p q = let h : m ≤ a = omega arith in mul-le-mul h q
mag_prod (negsuc m) n a b p q = mag_neg (suc m * n) (a * b) (mul-le-mul p q)

-- a number of 32 bits, 2 ^ 25 less
less_small : (word : ℕ) → word < 4294967296 → mag (pos word -ℤ pos 33554432) ≤ 4328521727
less_small word h = mag_sum (pos word) (negsuc 33554431) 4294967295 33554431 (omega arith) (le_refl 33554431)

-- a step of 32 bits at most
pub step_small : (word : ℕ) → word < 4294967296 → mag (signed_step word) < 8589934592
step_small word h = go (ltb word 16777216)
  where
    go : (t : Bool) → mag (cond t (pos word) (pos word -ℤ pos 33554432)) < 8589934592
    go true = omega arith
    go false = let l = less_small word h in omega arith

pub rounded_down-fits : (z : ℤ) → SFits w64 z → SFits w64 (rounded_down z)
rounded_down-fits z f = record { sfits = lt_of_le_of_lt (subst (λ (y : ℤ). mag y ≤ mag z) (floor_is z) (mag_shr z 65536)) f.sfits }
