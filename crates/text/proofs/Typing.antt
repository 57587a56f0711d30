-- Laws of lines: a text in parts, and the bytes of a list one by one.
use mathlib.Core.Path.{◌≡◌, refl, sym, ap, ◌∙◌}
use mathlib.Core.List.{List, [], ◌∷◌, ◌++◌}
use Prim.Native.Nat.{ℕ, zero, suc, ◌+◌, ◌-◌, ◌*◌, ◌/◌, ◌%◌, ◌^◌, ◌≤◌, ◌<◌}
use mathlib.Core.Logic.{◌⊎◌, inl, inr}
use native.Mathlib.Nat.{add-zero}
use native.Mathlib.Omega.{arith}
use native.Mathlib.Numerals.{add-one}
use lib.ListN.{length, get_or, set, take, drop, length-set, drop_of_length-le}
use lib.Seq.{sets, drop-cons, take_all, take-append-le}
use borrow.Author.Tests.{lt-ltb, le-ltb}
use Rattle.word.proofs.Tests.{split}
use Rattle.word.specs.Word.{byte_of, be_bytes}
use Rattle.word.specs.Splice.{spliced}
use Rattle.word.proofs.Splice.{sets-spliced}
use Rattle.text.specs.Line.{Line, line_of, pushed, appended}
use Rattle.text.specs.Hex.{digit_of, hex_byte, hex_bytes, hex_word}

-- a character where there is room, and where there is none
pub pushed_room : (l : Line) (byte : ℕ) → l.end < length l.bytes → pushed l byte ≡ line_of (set l.bytes l.end byte) (l.end + 1)
unfolding pushed
pushed_room l byte h = simp (lt-ltb _ _ h)

pub pushed_full : (l : Line) (byte : ℕ) → length l.bytes ≤ l.end → pushed l byte ≡ l
unfolding pushed
pushed_full l byte h = simp (le-ltb _ _ h)

-- one text after another
pub typed-append : (l : Line) (xs ys : List ℕ) → appended l (xs ++ ys) ≡ appended (appended l xs) ys
unfolding appended
typed-append l [] ys = refl
typed-append l (x ∷ xs) ys = typed-append (pushed l x) xs ys

-- one character, and the text after it
pub typed-cons : (l : Line) (byte : ℕ) (text : List ℕ) → appended l (byte ∷ text) ≡ appended (pushed l byte) text
unfolding appended
typed-cons l byte text = refl

-- one character, the last
pub typed_one : (l : Line) (byte : ℕ) → pushed l byte ≡ appended l (byte ∷ [])
unfolding appended
typed_one l byte = refl

pub hex_size : (word : ℕ) → length (hex_word word) ≡ 8
unfolding hex_word hex_bytes hex_byte be_bytes
hex_size word = refl

pub three_size : (word : ℕ) → length (drop 5 (hex_word word)) ≡ 3
unfolding hex_word hex_bytes hex_byte be_bytes
three_size word = refl

-- a text never ends past its buffer
push_within : (l : Line) (byte : ℕ) → l.end ≤ length l.bytes → (pushed l byte).end ≤ length (pushed l byte).bytes
unfolding pushed
push_within l byte h = go (split l.end (length l.bytes))
  where
    go : (l.end < length l.bytes) ⊎ (length l.bytes ≤ l.end) → (pushed l byte).end ≤ length (pushed l byte).bytes
    go (inl less) = rw (lt-ltb l.end (length l.bytes) less) (simp length-set (omega arith))
    go (inr full) = rw (le-ltb l.end (length l.bytes) full) h

pub typed-within : (l : Line) (text : List ℕ) → l.end ≤ length l.bytes → (appended l text).end ≤ length (appended l text).bytes
unfolding appended
typed-within l [] h = h
typed-within l (byte ∷ text) h = typed-within (pushed l byte) text (push_within l byte h)

-- a text that fits: it stands in the buffer, and other bytes are as they were
typed-sets : (text bytes : List ℕ) (n : ℕ) → n + length text ≤ length bytes → appended (line_of bytes n) text ≡ line_of (sets bytes n text) (n + length text)
unfolding appended pushed
typed-sets [] bytes n fits = ap (λ (k : ℕ). line_of bytes k) (sym (add-zero n))
typed-sets (t ∷ text) bytes n fits =
    let on : n + 1 + length text ≡ n + suc (length text) = omega arith in
    rw (lt-ltb n (length bytes) (omega arith)) (typed-sets text (set bytes n t) (n + 1) (simp length-set (omega arith)) ∙ rw (on, add-one))

pub typed-whole : (bytes text : List ℕ) → length text ≤ length bytes → appended (line_of bytes 0) text ≡ line_of (spliced 0 text bytes) (length text)
typed-whole bytes text fits =
    let none : 0 + length text ≡ length text = omega arith in
    typed-sets text bytes 0 (omega arith)
    ∙ ap (λ (k : ℕ). line_of (sets bytes 0 text) k) none
    ∙ ap (λ (bs : List ℕ). line_of bs (length text)) (sets-spliced 0 text bytes (omega arith))

-- so it can be read from there
pub typed-taken : (bytes text bytes' : List ℕ) (n : ℕ) → length text ≤ length bytes → line_of bytes' n ≡ appended (line_of bytes 0) text → take n bytes' ≡ text
unfolding spliced
typed-taken bytes text bytes' n fits e =
    let all = e ∙ typed-whole bytes text fits in
    let size : n ≡ length text = ap (λ (l : Line). l.end) all in
    let holds : bytes' ≡ text ++ drop (0 + length text) bytes = ap (λ (l : Line). l.bytes) all in
    rw (size, holds) (take-append-le (length text) text _ (omega arith) ∙ take_all (length text) text (omega arith))

-- the rest of a list is its next element and what follows that
pub rest-next : (xs : List ℕ) (i : ℕ) → i < length xs → drop i xs ≡ get_or xs i 0 ∷ drop (i + 1) xs
rest-next xs i h = rw (add-one, drop-cons xs i 0)

module _ (l : Line) (xs : List ℕ) (i : ℕ) (h : i < length xs) where
  pub typed_next : appended l (drop i xs) ≡ appended (pushed l (get_or xs i 0)) (drop (i + 1) xs)
  unfolding appended
  typed_next = rw (rest-next xs i h)

-- past a list's end nothing is left to be typed
module _ (l : Line) (xs : List ℕ) (i : ℕ) (h : length xs ≤ i) where
  pub typed_none : appended l (drop i xs) ≡ l
  unfolding appended
  typed_none = rw (drop_of_length-le xs h)

-- a word's digits, one by one
digit_there : (word place : ℕ) → place < 8 → get_or (hex_word word) place 0 ≡ digit_of (word / 2 ^ (28 - 4 * place) % 16)
unfolding hex_word hex_bytes hex_byte be_bytes byte_of
digit_there word zero h = ap (λ (d : ℕ). digit_of d) (omega arith)
digit_there word (suc zero) h = ap (λ (d : ℕ). digit_of d) (omega arith)
digit_there word (suc (suc zero)) h = ap (λ (d : ℕ). digit_of d) (omega arith)
digit_there word (suc (suc (suc zero))) h = ap (λ (d : ℕ). digit_of d) (omega arith)
digit_there word (suc (suc (suc (suc zero)))) h = ap (λ (d : ℕ). digit_of d) (omega arith)
digit_there word (suc (suc (suc (suc (suc zero))))) h = ap (λ (d : ℕ). digit_of d) (omega arith)
digit_there word (suc (suc (suc (suc (suc (suc zero)))))) h = ap (λ (d : ℕ). digit_of d) (omega arith)
digit_there word (suc (suc (suc (suc (suc (suc (suc zero))))))) h = ap (λ (d : ℕ). digit_of d) (omega arith)
digit_there word (suc (suc (suc (suc (suc (suc (suc (suc place)))))))) h = absurd (omega arith)

pub typed_digit : (l : Line) (word place : ℕ) → place < 8
    → appended l (drop place (hex_word word)) ≡ appended (pushed l (digit_of (word / 2 ^ (28 - 4 * place) % 16))) (drop (place + 1) (hex_word word))
typed_digit l word place h =
    typed_next l (hex_word word) place (rw (hex_size word) h)
    ∙ ap (λ (d : ℕ). appended (pushed l d) (drop (place + 1) (hex_word word))) (digit_there word place h)

pub typed_word_end : (l : Line) (word place : ℕ) → 8 ≤ place → appended l (drop place (hex_word word)) ≡ l
typed_word_end l word place h = typed_none l (hex_word word) place (rw (hex_size word) h)
