-- A number in decimal (specs/Decimal) reads as itself.
use mathlib.Core.Path.{◌≡◌, refl, ap, ◌∙◌}
use mathlib.Core.Bool.{Bool, true, false, ◌&&◌}
use mathlib.Core.List.{List, [], ◌∷◌, ◌++◌}
use Prim.Native.Nat.{ℕ, zero, suc, ◌+◌, ◌-◌, ◌*◌, ◌/◌, ◌%◌, ◌≤◌, ◌<◌}
use native.Mathlib.Omega.{arith}
use lib.ListN.{length}
use borrow.Author.Tests.{le-leb}
use Rattle.text.specs.Decimal.{digits_in, decimal}
use Rattle.text.specs.Numerals.{is_digit, all_digits, decimal_value, numeral_from}
use Rattle.text.proofs.numerals.Reading.{Stops, numeral_whole}

-- one digit more, the last

value-snoc : (high : ℕ) (digits : List ℕ) (d : ℕ) → decimal_value high (digits ++ ((48 + d) ∷ [])) ≡ decimal_value high digits * 10 + d
unfolding decimal_value
value-snoc high [] d = omega arith
value-snoc high (byte ∷ digits) d = value-snoc (high * 10 + (byte - 48)) digits d

digits_snoc : (digits : List ℕ) (d : ℕ) → d < 10 → all_digits digits ≡ true → all_digits (digits ++ ((48 + d) ∷ [])) ≡ true
unfolding all_digits
digits_snoc [] d h e = rw (le-leb 48 (48 + d) (omega arith), le-leb (48 + d) 57 (omega arith))
digits_snoc (byte ∷ digits) d h e = go (is_digit byte) (all_digits digits) e (digits_snoc digits d h)
  where
    go : (a b : Bool) → a && b ≡ true → (b ≡ true → all_digits (digits ++ ((48 + d) ∷ [])) ≡ true) → a && all_digits (digits ++ ((48 + d) ∷ [])) ≡ true
    go true true e' more = more refl
    go true false e' more = absurd (let z : ◌≡◌ {A = ℕ} 0 1 = cc in omega arith)
    go false b e' more = absurd (let z : ◌≡◌ {A = ℕ} 0 1 = cc in omega arith)

-- the digits of a number, with enough fuel

value_in : (fuel n : ℕ) → n ≤ fuel → decimal_value 0 (digits_in fuel n) ≡ n
unfolding digits_in decimal_value
value_in zero zero h = refl
value_in zero (suc n) h = absurd (omega arith)
value_in (suc fuel) zero h = refl
value_in (suc fuel) (suc n) h = value-snoc 0 (digits_in fuel (suc n / 10)) (suc n % 10) ∙ omega (arith, value_in fuel (suc n / 10) (omega arith))

digits_in_lem : (fuel n : ℕ) → all_digits (digits_in fuel n) ≡ true
unfolding digits_in all_digits
digits_in_lem zero n = refl
digits_in_lem (suc fuel) zero = refl
digits_in_lem (suc fuel) (suc n) = digits_snoc (digits_in fuel (suc n / 10)) (suc n % 10) (omega arith) (digits_in_lem fuel (suc n / 10))

pub decimal-value : (n : ℕ) → decimal_value 0 (decimal n) ≡ n
unfolding decimal
decimal-value n = value-snoc 0 (digits_in (n / 10) (n / 10)) (n % 10) ∙ omega (arith, value_in (n / 10) (n / 10) (omega arith))

pub decimal_digits : (n : ℕ) → all_digits (decimal n) ≡ true
unfolding decimal
decimal_digits n = digits_snoc (digits_in (n / 10) (n / 10)) (n % 10) (omega arith) (digits_in_lem (n / 10) (n / 10))

-- what is printed reads back
pub numeral_decimal : (largest at n : ℕ) (rest : List ℕ) → n ≤ largest → Stops rest → numeral_from largest 0 at (decimal n ++ rest) ≡ record { value = n; end = at + length (decimal n) }
numeral_decimal largest at n rest h s =
    numeral_whole largest 0 at (decimal n) rest (decimal_digits n) (omega (arith, decimal-value n)) s
    ∙ ap (λ (v : ℕ). record { value = v; end = at + length (decimal n) }) (decimal-value n)
