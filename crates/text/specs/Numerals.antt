-- Numbers in decimal digits, the highest first, read from a text of ASCII.
use Rattle.std.specs.Prelude.{ℕ, ◌+◌, ◌-◌, ◌*◌, Bool, true, cond, ◌&&◌, List, [], ◌∷◌, leb}
use Rattle.text.specs.declared.numerals.Numeral.{Numeral}

-- a character is a decimal digit
abbrev pub is_digit : ℕ → Bool
is_digit byte = leb 48 byte && leb byte 57

unfoldable pub all_digits : List ℕ → Bool
all_digits [] = true
all_digits (byte ∷ bytes) = is_digit byte && all_digits bytes

-- the number that digits stand for, after digits that stand for `high`
unfoldable pub decimal_value : (high : ℕ) → List ℕ → ℕ
decimal_value high [] = high
decimal_value high (byte ∷ bytes) = decimal_value (high * 10 + (byte - 48)) bytes

-- the number that the digits at the front of a text stand for, after digits that stand for `high` and end at `at`, as long as it does not pass the largest one
unfoldable pub numeral_from : (largest high at : ℕ) → List ℕ → Numeral
numeral_from largest high at [] = record { value = high; end = at }
numeral_from largest high at (byte ∷ bytes) =
    cond (is_digit byte && leb (high * 10 + (byte - 48)) largest)
    (numeral_from largest (high * 10 + (byte - 48)) (at + 1) bytes)
    (record { value = high; end = at })
