-- Laws of words: a number that is digits and nothing else, and a text equal to a word ignoring case.
use mathlib.Core.Path.{◌≡◌, refl, sym, ap, ◌∙◌}
use mathlib.Core.Bool.{Bool, true, false, cond, ◌&&◌}
use mathlib.Core.List.{List, [], append-nil}
use Prim.Native.Nat.{ℕ, ◌+◌, ◌≤◌, ◌<◌}
use native.Mathlib.Omega.{arith}
use lib.ListN.{length}
use lib.Dec.{ltb}
use borrow.Author.Tests.{lt-ltb, ltb-true}
use Rattle.std.specs.Prelude.{Some, None, IsTrue, ◌↔◌, map}
use Rattle.std.specs.Char.{to_ascii_lowercase}
use Rattle.std.specs.Str.{str_eq_ignore_ascii_case}
use Rattle.std.proofs.Common.{rules}
use Rattle.std.proofs.lemmas.Slice.Eq.{bytes_eq-Decides}
use Rattle.word.proofs.Tests.{and-true}
use Rattle.text.specs.declared.numerals.Numeral.{Numeral}
use Rattle.text.specs.Numerals.{all_digits, decimal_value, numeral_from}
use Rattle.text.proofs.numerals.Reading.{numeral_whole, numeral_part}
use Rattle.ppm.specs.Words.{parse_number}

module _ (text : List ℕ) (n : Numeral) (n-is : n ≡ numeral_from 4294967295 0 0 text) where
  end_is : n.end ≡ length text → (numeral_from 4294967295 0 0 text).end ≡ 0 + length text
  end_is e = sym (ap (λ (m : Numeral). m.end) n-is) ∙ e ∙ omega arith

  -- digits up to the end
  pub number_whole : 0 < length text → n.end ≡ length text → (Some n.value ≡ parse_number text) × (n.value ≤ 4294967295)
  unfolding parse_number
  number_whole some e =
      let w = numeral_part 4294967295 0 0 text (omega arith) (end_is e) in
      let value : n.value ≡ decimal_value 0 text = ap (λ (m : Numeral). m.value) n-is ∙ w.value_is in
      let small : ltb (decimal_value 0 text) 4294967296 ≡ true = lt-ltb (decimal_value 0 text) 4294967296 (omega (arith, w.small)) in
      (rw (lt-ltb 0 (length text) some, w.digits, small, value), omega (arith, value, w.small))

  -- something else behind the digits, or a number that is too large
  pub number_part : (n.end ≡ length text → ⊥) → None ≡ parse_number text
  unfolding parse_number
  number_part ne = go (ltb 0 (length text) && all_digits text && ltb (decimal_value 0 text) 4294967296) refl
    where
      go : (b : Bool) → ltb 0 (length text) && all_digits text && ltb (decimal_value 0 text) 4294967296 ≡ b
          → None ≡ cond (ltb 0 (length text) && all_digits text && ltb (decimal_value 0 text) 4294967296) (Some (decimal_value 0 text)) None
      go false f = rw f
      go true f =
          let one = and-true (ltb 0 (length text) && all_digits text) (ltb (decimal_value 0 text) 4294967296) f in
          let two = and-true (ltb 0 (length text)) (all_digits text) one.0 in
          let less : decimal_value 0 text < 4294967296 = ltb-true (decimal_value 0 text) 4294967296 one.1 in
          let whole = numeral_whole 4294967295 0 0 text [] two.1 (omega arith) tt in
          absurd (ne (ap (λ (m : Numeral). m.end) (n-is ∙ ap (numeral_from 4294967295 0 0) (sym (append-nil text)) ∙ whole) ∙ omega arith))

-- no digit
pub number_empty : (text : List ℕ) → length text ≡ 0 → None ≡ parse_number text
unfolding parse_number
number_empty text e = rw e

-- what std's comparison answers
pub tested : (text word : List ℕ) (r : Bool) → (IsTrue r ↔ (map to_ascii_lowercase text ≡ map to_ascii_lowercase word)) → r ≡ str_eq_ignore_ascii_case text word
tested text word r h = search (rules, bytes_eq-Decides)
