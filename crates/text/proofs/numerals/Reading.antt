-- A number read digit by digit.
use mathlib.Core.Path.{◌≡◌, refl, ◌∙◌}
use mathlib.Core.Bool.{Bool, true, false, cond, ◌&&◌}
use mathlib.Core.List.{List, [], ◌∷◌, ◌++◌}
use Prim.Native.Nat.{ℕ, suc, ◌+◌, ◌-◌, ◌*◌, ◌≤◌, ◌<◌}
use native.Mathlib.Omega.{arith}
use lib.ListN.{length, get_or, drop, drop_of_length-le}
use lib.Dec.{leb}
use borrow.Author.Tests.{le-leb, lt-leb, leb-true}
use Rattle.word.proofs.Tests.{and-true}
use Rattle.text.proofs.Typing.{rest-next}
use Rattle.text.specs.Numerals.{is_digit, all_digits, decimal_value, numeral_from}

-- ---- the loop

module _ (largest value end i : ℕ) (text : List ℕ) (h : i < length text) where
  abbrev byte : ℕ
  byte = get_or text i 0

  pub numeral_more : 48 ≤ byte → byte ≤ 57 → value * 10 + (byte - 48) ≤ largest
      → numeral_from largest value end (drop i text) ≡ numeral_from largest (value * 10 + (byte - 48)) (end + 1) (drop (i + 1) text)
  unfolding numeral_from
  numeral_more low high small = rw (rest-next text i h, le-leb 48 byte low, le-leb byte 57 high, le-leb (value * 10 + (byte - 48)) largest small)

  pub numeral_low : byte < 48 → numeral_from largest value end (drop i text) ≡ record { value = value; end = end }
  unfolding numeral_from
  numeral_low low = rw (rest-next text i h, lt-leb 48 byte low)

  pub numeral_high : 57 < byte → numeral_from largest value end (drop i text) ≡ record { value = value; end = end }
  unfolding numeral_from
  numeral_high high = rw (rest-next text i h, le-leb 48 byte (omega arith), lt-leb byte 57 high)

  pub numeral_large : 48 ≤ byte → byte ≤ 57 → largest < value * 10 + (byte - 48) → numeral_from largest value end (drop i text) ≡ record { value = value; end = end }
  unfolding numeral_from
  numeral_large low high large = rw (rest-next text i h, le-leb 48 byte low, le-leb byte 57 high, lt-leb (value * 10 + (byte - 48)) largest large)

pub numeral_end : (largest value end i : ℕ) (text : List ℕ) → length text ≤ i → numeral_from largest value end (drop i text) ≡ record { value = value; end = end }
unfolding numeral_from
numeral_end largest value end i text h = rw (drop_of_length-le text h)

-- ---- digits, and what follows them

-- digits only make a number larger
pub grows : (high : ℕ) (bytes : List ℕ) → high ≤ decimal_value high bytes
unfolding decimal_value
grows high [] = omega arith
grows high (byte ∷ bytes) = omega (arith, grows (high * 10 + (byte - 48)) bytes)

-- what does not go on with a digit
abbrev pub Stops : List ℕ → Type 0
Stops [] = Unit {0}
Stops (byte ∷ bytes) = is_digit byte ≡ false

stops_here : (largest value at : ℕ) (rest : List ℕ) → Stops rest → numeral_from largest value at rest ≡ record { value = value; end = at }
unfolding numeral_from
stops_here largest value at [] s = refl
stops_here largest value at (byte ∷ rest) s = rw s

pub numeral_whole : (largest value at : ℕ) (digits rest : List ℕ) → all_digits digits ≡ true → decimal_value value digits ≤ largest → Stops rest
    → numeral_from largest value at (digits ++ rest) ≡ record { value = decimal_value value digits; end = at + length digits }
unfolding numeral_from all_digits decimal_value
numeral_whole largest value at [] rest d h s =
    let none : at + 0 ≡ at = omega arith in
    rw none (stops_here largest value at rest s)
numeral_whole largest value at (byte ∷ digits) rest d h s =
    let both = and-true (is_digit byte) (all_digits digits) d in
    let small : leb (value * 10 + (byte - 48)) largest ≡ true = le-leb (value * 10 + (byte - 48)) largest (omega (arith, grows (value * 10 + (byte - 48)) digits)) in
    let size : at + 1 + length digits ≡ at + suc (length digits) = omega arith in
    rw (both.0, small) (numeral_whole largest (value * 10 + (byte - 48)) (at + 1) digits rest both.1 h s ∙ rw size)

-- ---- all of a text

-- it is digits that stand for this number, and that is not too large
pub record Whole (largest high : ℕ) (text : List ℕ) (value : ℕ) : Type 0 where
  pub digits : all_digits text ≡ true
  pub value_is : value ≡ decimal_value high text
  pub small : decimal_value high text ≤ largest

whole-more : (largest value at byte more : ℕ) (text : List ℕ) (b : Bool) → more ≡ value * 10 + (byte - 48) → is_digit byte && leb more largest ≡ b
    → (more ≤ largest → (numeral_from largest more (at + 1) text).end ≡ at + 1 + length text → Whole largest more text (numeral_from largest more (at + 1) text).value)
    → (cond b (numeral_from largest more (at + 1) text) (record { value = value; end = at })).end ≡ at + suc (length text)
    → Whole largest value (byte ∷ text) (cond b (numeral_from largest more (at + 1) text) (record { value = value; end = at })).value
unfolding all_digits decimal_value
whole-more largest value at byte more text true is g rest e =
    let both = and-true (is_digit byte) (leb more largest) g in
    let w = rest (leb-true more largest both.1) (e ∙ omega arith) in
    record { digits = rw both.0 w.digits; value_is = w.value_is ∙ rw is; small = rw is at w.small }
whole-more largest value at byte more text false is g rest e = absurd (omega (arith, e))

pub numeral_part : (largest value at : ℕ) (text : List ℕ) → value ≤ largest → (numeral_from largest value at text).end ≡ at + length text
    → Whole largest value text (numeral_from largest value at text).value
unfolding numeral_from
numeral_part largest value at [] small e = unfold all_digits decimal_value in record { digits = refl; value_is = refl; small = small }
numeral_part largest value at (byte ∷ text) small e =
    whole-more largest value at byte (value * 10 + (byte - 48)) text (is_digit byte && leb (value * 10 + (byte - 48)) largest) refl refl (numeral_part largest (value * 10 + (byte - 48)) (at + 1) text) e
