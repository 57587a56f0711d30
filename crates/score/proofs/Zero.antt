-- 0 isn't above the product of a score with 255, also where the score is -0.0.
use mathlib.Core.Path.{◌≡◌, sym, ap, ◌∙◌, subst}
use mathlib.Core.Bool.{Bool, true, false, ◌&&◌, ◌||◌, beq}
use Prim.Native.Nat.{ℕ, ◌*◌, ◌^◌, ◌≤◌, ◌<◌, zero-le}
use native.Mathlib.Nat.{mul-pos, zero-mul}
use native.Mathlib.Omega.{arith}
use lib.Dec.{T, eqb, eqb→eq}
use lib.IntN.{pos}
use lib.Ieee.{Float, nan, inf, fin, binary32, mul, le, lt, eq, of_int, round, up, down}
use lib.Ieee.Order.{round_mono}
use lib.Ieee.Fits.{down_pos, and_l, and_r, and_i, eq→eqb}
use lib.Ieee.Exact.{HasValue, round_exact}
use native.Mathlib.Nat.{eq_of_mul-eq-mul_right}
use lib.Pow.{pow_pos}
use Rattle.score.specs.Coverage.{is_score, product, not_above, whole}

-- what a level zero says
level_zero : (a b : ℕ) → T (eqb a b && (false || eqb a 0)) → b ≡ 0
level_zero a b t =
    let p : a ≡ b = eqb→eq a b (and_l (eqb a b) (eqb a 0) t) in
    let q : a ≡ 0 = eqb→eq a 0 (and_r (eqb a b) (eqb a 0) t) in
    omega arith

or_right : (b c : Bool) → T c → T (b || c)
or_right true c t = tt
or_right false c t = t

-- a float of the value 0, of either sign, is not below 0
zero-le-value : (x : Float) (s : Bool) (c : ℕ) → 0 < c → HasValue x s 0 c → T (le (fin false 0 (pos 0)) x)
unfolding le lt eq
zero-le-value nan s c p v = absurd v
zero-le-value (inf t) s c p v = absurd v
zero-le-value (fin t m e) s c p v =
    let z : m * up e ≡ 0 = eq_of_mul-eq-mul_right c p (m * up e) 0 (v.1 ∙ zero-mul (down e) ∙ sym (zero-mul c)) in
    let l : 0 * 1 * down e ≡ 0 = zero-mul (down e) in
    let q : 0 * 1 * down e ≡ m * up e * 1 = omega (arith, l, z) in
    or_right (lt (fin false 0 (pos 0)) (fin t m e)) (eqb (0 * 1 * down e) (m * up e * 1) && (beq false t || eqb (0 * 1 * down e) 0))
    (and_i (eqb (0 * 1 * down e) (m * up e * 1)) (beq false t || eqb (0 * 1 * down e) 0) (eq→eqb q) (or_right (beq false t) (eqb (0 * 1 * down e) 0) (eq→eqb l)))

zero-under : (s : Float) → T (le (whole 0) s) × T (le s (whole 1)) → T (not_above (product s) 0)
unfolding not_above product le lt eq mul of_int
zero-under nan r = absurd r.0
zero-under (inf true) r = absurd r.0
zero-under (inf false) r = absurd r.1
zero-under (fin false m e) r = round_mono binary32 0 1 (m * up e * 255) (down e * 1) (omega arith) (mul-pos (down_pos e) (omega arith)) (subst (λ (k : ℕ). k ≤ m * up e * 255 * 1) (sym (zero-mul (down e * 1))) zero-le)
zero-under (fin true m e) r =
    let z : m * up e * 1 ≡ 0 = level_zero (0 * 1 * down e) (m * up e * 1) r.0 in
    let n : m * up e * 255 ≡ 0 = omega arith in
    let d : 0 < down e * 1 = mul-pos (down_pos e) (omega arith) in
    let h : m * up e * 255 * 2 ^ 149 ≡ 0 * 2 ^ 0 * (down e * 1) = ap (λ (k : ℕ). k * 2 ^ 149) n ∙ sym (zero-mul (down e * 1)) in
    let v = round_exact binary32 true (m * up e * 255) (down e * 1) 0 0 d (pow_pos 24) (pow_pos 277) h in
    zero-le-value (round binary32 true (m * up e * 255) (down e * 1)) true (down e * 1) d (subst (λ (k : ℕ). HasValue (round binary32 true (m * up e * 255) (down e * 1)) true k (down e * 1)) n v)

pub zero-not-above : (s : Float) → is_score s ≡ true → T (not_above (product s) 0)
unfolding is_score
zero-not-above s e =
    let t : T (le (whole 0) s && le s (whole 1)) = subst T (sym e) tt in
    zero-under s (and_l (le (whole 0) s) (le s (whole 1)) t, and_r (le (whole 0) s) (le s (whole 1)) t)
