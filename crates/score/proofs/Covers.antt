-- The coverage of a score is as the paper's sentence has it.
use mathlib.Core.Path.{◌≡◌, refl, subst}
use mathlib.Core.Bool.{Bool, true, false, cond}
use mathlib.Core.Logic.{⊎_elim}
use Prim.Native.Nat.{ℕ, zero, suc, ◌≤◌, ◌<◌}
use native.Mathlib.Omega.{arith}
use native.Mathlib.Nat.{eq-or-lt_of_le}
use lib.Dec.{T}
use lib.Ieee.{Float}
use Rattle.score.specs.Coverage.{is_score, product, not_above, greatest_to, coverage_of}
use Rattle.score.specs.Covers.{Covers}
use Rattle.score.proofs.Zero.{zero-not-above}

small : (p : Float) (n : ℕ) → greatest_to n p ≤ n
unfolding greatest_to
small p zero = omega arith
small p (suc n) = chosen (not_above p (suc n)) (small p n)
  where
    chosen : (b : Bool) → greatest_to n p ≤ n → cond b (suc n) (greatest_to n p) ≤ suc n
    chosen true l = omega arith
    chosen false l = omega arith

under : (p : Float) (n : ℕ) → T (not_above p 0) → T (not_above p (greatest_to n p))
unfolding greatest_to
under p zero z = z
under p (suc n) z = chosen (not_above p (suc n)) (λ t. t) (under p n z)
  where
    chosen : (b : Bool) → (T b → T (not_above p (suc n))) → T (not_above p (greatest_to n p)) → T (not_above p (cond b (suc n) (greatest_to n p)))
    chosen true h u = h tt
    chosen false h u = u

over : (p : Float) (n k : ℕ) → k ≤ n → T (not_above p k) → k ≤ greatest_to n p
unfolding greatest_to
over p zero k l t = l
over p (suc n) k l t = chosen (not_above p (suc n)) (λ s. s) (λ g. over p n k g t)
  where
    chosen : (b : Bool) → (T (not_above p (suc n)) → T b) → (k ≤ n → k ≤ greatest_to n p) → k ≤ cond b (suc n) (greatest_to n p)
    chosen true h o = l
    chosen false h o =
        ⊎_elim (λ (e : k ≡ suc n). absurd (h (subst (λ (m : ℕ). T (not_above p m)) e t)))
        (λ (g : k < suc n). o (omega arith))
        (eq-or-lt_of_le l)

pub covers : (s : Float) → is_score s ≡ true → Covers s (greatest_to 255 (product s))
unfolding coverage_of
covers s e = record {
  small = small (product s) 255;
  under = under (product s) 255 (zero-not-above s e);
  over = over (product s) 255;
  cover = refl;
}
