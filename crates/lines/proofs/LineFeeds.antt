-- Laws of line feeds: every line that is printed of a record has one, at its end.
use mathlib.Core.Path.{◌≡◌, refl, ap, ◌∙◌}
use mathlib.Core.Logic.{⊎_elim}
use mathlib.Core.List.{List, [], ◌∷◌, ◌++◌, append_assoc}
use Prim.Native.Nat.{ℕ, zero, suc, ◌+◌, ◌/◌, ◌%◌, ◌≤◌, ◌<◌}
use native.Mathlib.Omega.{arith}
use borrow.Author.Tests.{ne_eqb, lt-ltb, le-ltb}
use Rattle.word.proofs.Tests.{split}
use Rattle.model.specs.Calls.{CompletionStatus, completed}
use Rattle.claims.specs.Engine.{answer_or_refusal}
use Rattle.text.specs.Hex.{digit_of, hex_byte, hex_bytes, hex_word}
use Rattle.text.specs.Decimal.{digits_in, decimal}
use Rattle.lines.specs.Lines.{spaced, completion_line, refusal_line, answer_line, bad_score_line}
use Rattle.lines.specs.Answered.{line_feeds, OneLine}

pub feeds-append : (xs ys : List ℕ) → line_feeds (xs ++ ys) ≡ line_feeds xs + line_feeds ys
unfolding line_feeds
feeds-append [] ys = omega arith
feeds-append (x ∷ xs) ys = omega (arith, feeds-append xs ys)

-- ---- none in a number

abbrev Unbroken : List ℕ → Type 0
Unbroken text = line_feeds text ≡ 0

both : (xs ys : List ℕ) → Unbroken xs → Unbroken ys → Unbroken (xs ++ ys)
both xs ys a b = omega (arith, feeds-append xs ys)

front : (byte : ℕ) (bytes : List ℕ) → ¬ (byte ≡ 10) → Unbroken bytes → Unbroken (byte ∷ bytes)
unfolding line_feeds
front byte bytes other e = rw (ne_eqb byte 10 other) (omega arith)

none : Unbroken []
unfolding line_feeds
none = refl

digit : (n : ℕ) → Unbroken ((48 + n) ∷ [])
digit n = front (48 + n) [] (λ e. omega arith) none

digits : (fuel n : ℕ) → Unbroken (digits_in fuel n)
unfolding digits_in
digits zero n = none
digits (suc fuel) zero = none
digits (suc fuel) (suc n) = both (digits_in fuel (suc n / 10)) _ (digits fuel (suc n / 10)) (digit (suc n % 10))

in_decimal : (n : ℕ) → Unbroken (decimal n)
unfolding decimal
in_decimal n = both (digits_in (n / 10) (n / 10)) _ (digits (n / 10) (n / 10)) (digit (n % 10))

hex_digit : (value : ℕ) → ¬ (digit_of value ≡ 10)
hex_digit value = ⊎_elim (λ (p : value < 10). rw (lt-ltb value 10 p) (λ e. omega arith)) (λ (p : 10 ≤ value). rw (le-ltb value 10 p) (λ e. omega arith)) (split value 10)

in_hex : (bytes : List ℕ) → Unbroken (hex_bytes bytes)
unfolding hex_bytes hex_byte
in_hex [] = none
in_hex (byte ∷ bytes) = front _ _ (hex_digit (byte / 16)) (front _ _ (hex_digit (byte % 16)) (in_hex bytes))

in_word : (word : ℕ) → Unbroken (hex_word word)
unfolding hex_word
in_word word = in_hex _

-- ---- one in a line

one_end : OneLine (10 ∷ [])
one_end = record { inner = []; ended = refl; unbroken = none }

behind : (xs text : List ℕ) → Unbroken xs → OneLine text → OneLine (xs ++ text)
behind xs text a o = record {
  inner = xs ++ o.inner;
  ended = rw append_assoc (ap (λ (t : List ℕ). xs ++ t) o.ended);
  unbroken = both xs o.inner a o.unbroken;
}

after_space : (xs text : List ℕ) → Unbroken xs → OneLine text → OneLine (spaced xs ++ text)
after_space xs text a o = behind (spaced xs) text (front 32 xs (λ e. omega arith) a) o

pub one-feed : (text : List ℕ) → OneLine text → line_feeds text ≡ 1
unfolding line_feeds
one-feed text o = ap line_feeds o.ended ∙ rw (feeds-append, o.unbroken)

completion-one : (client ticket : ℕ) (v : CompletionStatus) → OneLine (completion_line client ticket v)
unfolding completion_line
completion-one client ticket v =
    behind (decimal client) _ (in_decimal client)
    (after_space (decimal ticket) _ (in_decimal ticket)
    (after_space (hex_word v.status) _ (in_word v.status)
    (after_space (decimal v.fault) _ (in_decimal v.fault)
    (after_space (decimal v.offset) _ (in_decimal v.offset) one_end))))

refusal-one : (client number : ℕ) → OneLine (refusal_line client number)
unfolding refusal_line line_feeds
refusal-one client number =
    behind (decimal client) _ (in_decimal client)
    (behind (32 ∷ 45 ∷ 32 ∷ 45 ∷ 32 ∷ []) _ refl
    (behind (decimal number) _ (in_decimal number)
    (behind (32 ∷ 48 ∷ []) _ refl one_end)))

-- a record's line: a refusal, or a completion
pub answer-one : (number client ticket : ℕ) (v : CompletionStatus) → OneLine (answer_line client (answer_or_refusal number (completed client ticket v)))
unfolding answer_line answer_or_refusal
answer-one zero client ticket v = completion-one client ticket v
answer-one (suc number) client ticket v = refusal-one client (suc number)

pub bad_score-feed : line_feeds bad_score_line ≡ 1
unfolding line_feeds bad_score_line
bad_score-feed = refl
