-- Lines, one after another, and how long they are.
use mathlib.Core.Path.{◌≡◌, sym, ap, ◌∙◌}
use mathlib.Core.Bool.{Bool, true, false, cond}
use mathlib.Core.List.{List, [], ◌∷◌, ◌++◌, append-nil, append_assoc}
use Prim.Native.Nat.{ℕ, suc, ◌+◌, ◌*◌, ◌≤◌, ◌<◌}
use native.Mathlib.Omega.{arith}
use lib.ListN.{length, get_or, take, drop, length-append, drop_of_length-le}
use lib.Dec.{eqb}
use borrow.Author.Tests.{eq-eqb, ne_eqb}
use Rattle.text.specs.Line.{Line, line_of, pushed, appended}
use Rattle.text.specs.Decimal.{decimal}
use Rattle.text.proofs.Typing.{typed-append, typed_one, typed-whole, typed-taken, rest-next}
use Rattle.text.proofs.Digits.{decimal-size}
use Rattle.totals.specs.declared.Answer.{Answer}
use Rattle.totals.specs.Totals.{largest}
use Rattle.totals.specs.Lines.{label_of, count_lines, totals_text, refused_text, answer_text, progress_text}
use Rattle.totals.specs.Reading.{FourteenCounts}

-- two texts and a character, one after another
pub typed_three : (l a b r : Line) (xs ys : List ℕ) (byte : ℕ) → a ≡ appended l xs → b ≡ appended a ys → r ≡ pushed b byte → r ≡ appended l (xs ++ (ys ++ (byte ∷ [])))
typed_three l a b r xs ys byte p q s =
    s ∙ rw (q, p, typed-append l xs (ys ++ (byte ∷ [])), typed-append (appended l xs) ys (byte ∷ [])) (typed_one (appended (appended l xs) ys) byte)

-- ---- one line, and the others

module _ (counts : List ℕ) (k : ℕ) (h : k < length counts) where
  abbrev one : List ℕ
  one = label_of k ++ (decimal (get_or counts k 0) ++ (10 ∷ []))

  abbrev others : List ℕ
  others = count_lines (k + 1) (drop (k + 1) counts)

  pub lines-front : count_lines k (drop k counts) ≡ label_of k ++ (decimal (get_or counts k 0) ++ (10 ∷ others))
  unfolding count_lines
  lines-front = rw (rest-next counts k h)

  pub lines_turn : (l l' : Line) → l' ≡ appended l one → appended l (count_lines k (drop k counts)) ≡ appended l' others
  lines_turn l l' e =
      let split : label_of k ++ (decimal (get_or counts k 0) ++ (10 ∷ others)) ≡ one ++ others = simp append_assoc in
      ap (appended l) (lines-front ∙ split) ∙ typed-append l one others ∙ rw e

pub lines_none : (l : Line) (counts : List ℕ) (k : ℕ) → length counts ≤ k → appended l (count_lines k (drop k counts)) ≡ l
unfolding count_lines appended
lines_none l counts k h = rw (drop_of_length-le counts h)

-- ---- how long they are

either-size : (b : Bool) (xs ys : List ℕ) (n : ℕ) → length xs ≤ n → length ys ≤ n → length (cond b xs ys) ≤ n
either-size true xs ys n p q = p
either-size false xs ys n p q = q

pub label_size : (k : ℕ) → k < 14 → length (label_of k) ≤ 27
unfolding label_of
label_size k h =
    let few : length (decimal (k + 16)) ≤ 20 = decimal-size (k + 16) (omega arith) in
    either-size (eqb k 0) _ _ 27 (omega arith)
    (either-size (eqb k 1) _ _ 27 (omega arith)
    (either-size (eqb k 2) _ _ 27 (omega arith)
    (either-size (eqb k 3) _ _ 27 (omega arith)
    (either-size (eqb k 13) _ _ 27 (omega arith)
    (simp length-append (omega arith))))))

pub label_typed : (bytes bytes' : List ℕ) (k n : ℕ) → k < 14 → length bytes ≡ 27 → line_of bytes' n ≡ appended (line_of bytes 0) (label_of k) → (n ≡ length (label_of k)) × (n ≤ 27)
label_typed bytes bytes' k n h size e =
    let few : length (label_of k) ≤ 27 = label_size k h in
    let same : n ≡ length (label_of k) = ap (λ (l : Line). l.end) (e ∙ typed-whole bytes (label_of k) (omega arith)) in
    (same, omega arith)

sizes : (counts : List ℕ) (k : ℕ) → ((j : ℕ) → get_or counts j 0 ≤ largest) → k + length counts ≤ 14 → length (count_lines k counts) ≤ 48 * length counts
unfolding count_lines
sizes [] k small h = omega arith
sizes (count ∷ counts) k small h =
    let few : length (decimal count) ≤ 20 = decimal-size count (omega (arith, small 0)) in
    let name : length (label_of k) ≤ 27 = label_size k (omega arith) in
    let rest : length (count_lines (k + 1) counts) ≤ 48 * length counts = sizes counts (k + 1) (λ j. small (suc j)) (omega arith) in
    simp length-append (omega (arith, few, name, rest))

pub lines-size : (counts : List ℕ) → FourteenCounts counts → length (count_lines 0 counts) ≤ 672
lines-size counts C = omega (arith, sizes counts 0 C.small (omega (arith, C.size)), C.size)

-- lines in a buffer that has room for them
pub lines-typed : (bytes bytes' text : List ℕ) (n : ℕ) → length text ≤ 672 → length bytes ≡ 672 → line_of bytes' n ≡ appended (line_of bytes 0) text → (n ≤ 672) × (take n bytes' ≡ text)
lines-typed bytes bytes' text n few size e =
    let same : n ≡ length text = ap (λ (l : Line). l.end) (e ∙ typed-whole bytes text (omega arith)) in
    (omega arith, typed-taken bytes text bytes' n (omega arith) e)

-- ---- an answer

abbrev refused_line : ℕ → List ℕ
refused_line refusal = (114 ∷ 101 ∷ 102 ∷ 117 ∷ 115 ∷ 101 ∷ 100 ∷ 32 ∷ []) ++ (decimal refusal ++ (10 ∷ []))

refused_none : (refusal : ℕ) → refusal ≡ 0 → refused_text refusal ≡ []
unfolding refused_text
refused_none refusal e = rw (eq-eqb refusal 0 e)

refused-some : (refusal : ℕ) → (refusal ≡ 0 → ⊥) → refused_text refusal ≡ refused_line refusal
unfolding refused_text
refused-some refusal e = rw (ne_eqb refusal 0 e)

module _ (l written : Line) (answer : Answer) (w : written ≡ appended l (totals_text answer.totals)) (few : length (totals_text answer.totals) ≤ 672) where
  pub answer-added : answer.refusal ≡ 0 → (written ≡ appended l (answer_text answer)) × (length (answer_text answer) ≤ 704)
  answer-added e =
      let none : answer_text answer ≡ totals_text answer.totals = ap (λ (xs : List ℕ). totals_text answer.totals ++ xs) (refused_none answer.refusal e) ∙ append-nil (totals_text answer.totals) in
      (w ∙ ap (appended l) (sym none), omega (arith, few, ap length none))

  pub answer-refused : (answer.refusal ≡ 0 → ⊥) → length (decimal answer.refusal) ≤ 20 → (r : Line) → r ≡ appended written (refused_line answer.refusal)
      → (r ≡ appended l (answer_text answer)) × (length (answer_text answer) ≤ 704)
  answer-refused e short r is =
      let some : refused_text answer.refusal ≡ refused_line answer.refusal = refused-some answer.refusal e in
      let line : length (refused_line answer.refusal) ≤ 29 = simp length-append (omega arith) in
      let size : length (refused_text answer.refusal) ≤ 29 = omega (arith, line, ap length some) in (
        is ∙ ap (appended written) (sym some) ∙ ap (λ (m : Line). appended m (refused_text answer.refusal)) w ∙ sym (typed-append l (totals_text answer.totals) (refused_text answer.refusal)),
        omega (arith, size, few, length-append (totals_text answer.totals) (refused_text answer.refusal)),
      )

-- ---- how many files are done

pub typed_then : (l a r : Line) (xs ys : List ℕ) → a ≡ appended l xs → r ≡ appended a ys → r ≡ appended l (xs ++ ys)
typed_then l a r xs ys p q = q ∙ rw p (sym (typed-append l xs ys))

pub progress_size : (files of : ℕ) → length (decimal files) ≤ 20 → length (decimal of) ≤ 20 → length (progress_text files of) ≤ 64
unfolding progress_text
progress_size files of a b = simp length-append (omega (arith, a, b))
