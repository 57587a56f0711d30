-- The greatest number that isn't above a product, searched for by halves.
use mathlib.Core.Path.{◌≡◌, refl, sym, ap, ◌∙◌, subst}
use mathlib.Core.Bool.{Bool, true, false, cond}
use mathlib.Core.Logic.{⊎_elim}
use Prim.Native.Nat.{ℕ, zero, suc, ◌-◌, ◌*◌, ◌^◌, ◌≤◌, ◌<◌}
use native.Mathlib.Omega.{arith}
use native.Mathlib.Nat.{eq-or-lt_of_le, mul-le-mul_right, lt_of_le_of_lt, mul-one}
use lib.Dec.{T, lit<}
use lib.Ieee.{Float, nan, inf, fin, binary32, round, le, lt, of_int}
use lib.Ieee.Exact.{HasValue, round_exact}
use lib.Ieee.Order.{round_mono}
use lib.Ieee.Positive.{positive, above, positive_of_value, le_trans_positive, above_of_le}
use Rattle.score.specs.Coverage.{not_above, greatest_to}

-- ---- a number that isn't above the product, and those below it

-- a number of 1 to 255, as an f32, is that number
exact : (k : ℕ) → k ≤ 255 → HasValue (round binary32 false k 1) false k 1
exact k h =
    round_exact binary32 false k 1 k 149 (omega arith) (omega arith)
    (lt_of_le_of_lt (mul-le-mul_right (2 ^ 149) h) (lit< tt))
    (sym (mul-one (k * 2 ^ 149)))

positive-number : (k : ℕ) → 0 < k → k ≤ 255 → T (positive (round binary32 false k 1))
positive-number k p h = positive_of_value (round binary32 false k 1) k 1 (exact k h) p

-- below what is below an infinity or a positive number
below-above : (x y p : Float) → T (positive x) → T (positive y) → T (above p) → T (le x y) → T (le y p) → T (le x p)
unfolding le lt
below-above x y nan a b c h k = absurd c
below-above nan y (inf s) a b c h k = absurd a
below-above (inf t) y (inf s) a b c h k = absurd a
below-above (fin t m e) y (inf true) a b c h k = absurd c
below-above (fin t m e) y (inf false) a b c h k = tt
below-above x y (fin true n d) a b c h k = absurd c
below-above x y (fin false n d) a b c h k = le_trans_positive x y (fin false n d) a b c h k

pub lower : (p : Float) (k m : ℕ) → 0 < k → k ≤ m → m ≤ 255 → T (not_above p m) → T (not_above p k)
unfolding not_above of_int
lower p k m h l u t =
    below-above (round binary32 false k 1) (round binary32 false m 1) p (positive-number k h (omega arith)) (positive-number m (omega arith) u)
    (above_of_le (round binary32 false m 1) p (positive-number m (omega arith) u) t)
    (round_mono binary32 k 1 m 1 (omega arith) (omega arith) (omega arith))
    t

-- ---- how the search goes on

-- a number that isn't above the product is the greatest up to itself
pub reached : (p : Float) (a : ℕ) → 0 < a → not_above p a ≡ true → greatest_to a p ≡ a
unfolding greatest_to
reached p zero h e = let no : ⊥ = omega arith in absurd no
reached p (suc n) h e = ap (λ b. cond b (suc n) (greatest_to n p)) e

-- one that is above it may be left out
passed : (p : Float) (n : ℕ) → not_above p (suc n) ≡ false → greatest_to n p ≡ greatest_to (suc n) p
unfolding greatest_to
passed p n e = sym (ap (λ b. cond b (suc n) (greatest_to n p)) e)

-- what follows a number that is above the product is above it too
above_too : (p : Float) (m n : ℕ) → 0 < m → m ≤ n → n ≤ 255 → not_above p m ≡ false → not_above p n ≡ false
above_too p m n h l u e = go (not_above p n) refl
  where
    go : (b : Bool) → not_above p n ≡ b → b ≡ false
    go false q = refl
    go true q = absurd (subst T e (lower p m n h l u (subst T (sym q) tt)))

-- so all from it on may be left out
pub left_out : (p : Float) (m n : ℕ) → 0 < m → m ≤ n → n ≤ 255 → not_above p m ≡ false → greatest_to (m - 1) p ≡ greatest_to n p
left_out p m zero h l u e = let no : ⊥ = omega arith in absurd no
left_out p m (suc n) h l u e =
    ⊎_elim
    (λ (q : m ≡ suc n). ap (λ (k : ℕ). greatest_to k p) (less q) ∙ passed p n (ap (not_above p) (sym q) ∙ e))
    (λ (q : m < suc n). left_out p m n h (omega arith) (omega arith) e ∙ passed p n (above_too p m (suc n) h l u e))
    (eq-or-lt_of_le l)
  where
    less : m ≡ suc n → m - 1 ≡ n
    less q = omega arith
