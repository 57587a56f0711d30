-- Numbers as text: decimal digits in ASCII, the highest first and no zero before them.
use Rattle.std.specs.Prelude.{ℕ, zero, suc, ◌+◌, ◌/◌, ◌%◌, List, [], ◌∷◌, ◌++◌}

-- the digits of a number, none for 0; fuel for as many digits
unfoldable pub digits_in : (fuel number : ℕ) → List ℕ
digits_in zero number = []
digits_in (suc fuel) zero = []
digits_in (suc fuel) (suc n) = digits_in fuel (suc n / 10) ++ ((48 + suc n % 10) ∷ [])

-- a number in decimal: its last digit, and before it the digits of number / 10, which is also enough recursion depth; 0 is one digit
unfoldable pub decimal : ℕ → List ℕ
decimal number = digits_in (number / 10) (number / 10) ++ ((48 + number % 10) ∷ [])
