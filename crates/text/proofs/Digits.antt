-- Laws of decimal digits: more fuel changes nothing, a number's digits are those of its tens and its last one, and how many there are.
use mathlib.Core.Path.{◌≡◌, refl, ap, ◌∙◌}
use mathlib.Core.List.{List, [], ◌∷◌, ◌++◌}
use Prim.Native.Nat.{ℕ, zero, suc, ◌+◌, ◌/◌, ◌%◌, ◌^◌, ◌≤◌, ◌<◌}
use native.Mathlib.Omega.{arith}
use lib.ListN.{length, length-append}
use Rattle.text.specs.Line.{Line, pushed, appended}
use Rattle.text.specs.Decimal.{digits_in, decimal}
use Rattle.text.proofs.Typing.{typed-append}

fuel_free : (f g n : ℕ) → n ≤ f → n ≤ g → digits_in f n ≡ digits_in g n
unfolding digits_in
fuel_free zero zero zero p q = refl
fuel_free zero (suc g) zero p q = refl
fuel_free (suc f) zero zero p q = refl
fuel_free (suc f) (suc g) zero p q = refl
fuel_free zero g (suc n) p q = absurd (omega arith)
fuel_free (suc f) zero (suc n) p q = absurd (omega arith)
fuel_free (suc f) (suc g) (suc n) p q = ap (λ (ds : List ℕ). ds ++ ((48 + suc n % 10) ∷ [])) (fuel_free f g (suc n / 10) (omega arith) (omega arith))

tens : (q : ℕ) → 0 < q → digits_in q q ≡ decimal q
unfolding digits_in decimal
tens zero p = absurd (omega arith)
tens (suc m) p = ap (λ (ds : List ℕ). ds ++ ((48 + suc m % 10) ∷ [])) (fuel_free m (suc m / 10) (suc m / 10) (omega arith) (omega arith))

decimal-few : (n : ℕ) → n < 10 → decimal n ≡ (48 + n) ∷ []
unfolding digits_in decimal
decimal-few n h =
    let none : n / 10 ≡ 0 = omega arith in
    let last : n % 10 ≡ n = omega arith in
    rw (none, last)

open_up : (n : ℕ) → decimal n ≡ digits_in (n / 10) (n / 10) ++ ((48 + n % 10) ∷ [])
unfolding decimal
open_up n = refl

decimal-more : (n : ℕ) → 10 ≤ n → decimal n ≡ decimal (n / 10) ++ ((48 + n % 10) ∷ [])
decimal-more n h = open_up n ∙ ap (λ (ds : List ℕ). ds ++ ((48 + n % 10) ∷ [])) (tens (n / 10) (omega arith))

-- a number typed: one digit, or the digits of its tens and its last one
pub typed_few : (l : Line) (n : ℕ) → n < 10 → pushed l (48 + n % 10) ≡ appended l (decimal n)
unfolding appended
typed_few l n h =
    let last : n % 10 ≡ n = omega arith in
    rw (last, decimal-few n h)

pub typed_more : (l tens : Line) (n : ℕ) → 10 ≤ n → tens ≡ appended l (decimal (n / 10)) → pushed tens (48 + n % 10) ≡ appended l (decimal n)
unfolding appended
typed_more l tens n h e = rw (decimal-more n h, typed-append, e)

few : (k f n : ℕ) → n < 10 ^ k → length (digits_in f n) ≤ k
unfolding digits_in
few k zero n h = omega arith
few k (suc f) zero h = omega arith
few zero (suc f) (suc n) h = absurd (omega arith)
few (suc k) (suc f) (suc n) h =
    let less : suc n / 10 < 10 ^ k = omega arith in
    simp length-append (omega (arith, few k f (suc n / 10) less))

pub decimal-size : (n : ℕ) → n < 2 ^ 64 → length (decimal n) ≤ 20
unfolding decimal
decimal-size n h =
    let less : n / 10 < 10 ^ 19 = omega arith in
    simp length-append (omega (arith, few 19 (n / 10) (n / 10) less))

pub ruleset decimal_laws = (typed_few, typed_more, decimal-size)
