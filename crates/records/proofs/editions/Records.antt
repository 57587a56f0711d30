-- A record that lies in the buffer: its score, and what is submitted of it.
use mathlib.Core.Path.{◌≡◌, refl, ap, ◌∙◌}
use mathlib.Core.List.{List}
use Prim.Native.Nat.{ℕ, ◌+◌, ◌-◌, ◌≤◌}
use native.Mathlib.Omega.{arith}
use lib.ListN.{length, get_or, take, drop, length-drop}
use lib.Seq.{length-take-le, take-add, drop_at, drop-drop, get_or-take, get_or-drop}
use borrow.Author.Tests.{le-leb}
use Rattle.word.specs.Word.{be32_at}
use Rattle.records.specs.declared.Edition.{Edition}
use Rattle.records.specs.declared.Edition.TheVariants.{First, Second}
use Rattle.records.specs.Reading.{batch_start, entry_in}
use Rattle.records.specs.Editions.{score_holds, submission, score_in}

-- the score's word, as it lies in the buffer
word_in : (held : List ℕ) (end : ℕ) → 9 ≤ end → be32_at (entry_in held end).batch 0 ≡ be32_at held 5
unfolding be32_at
word_in held end some =
    let at : (i : ℕ) → i ≤ 3 → get_or (take (end - 5) (drop 5 held)) i 0 ≡ get_or held (5 + i) 0 = λ i few.
    get_or-take (end - 5) (drop 5 held) i 0 (omega arith) ∙ get_or-drop 5 held i 0 in
    rw (at 0 (omega arith), at 1 (omega arith), at 2 (omega arith), at 3 (omega arith))

pub score_in_lem : (edition : Edition) (held : List ℕ) (end : ℕ) → (batch_start edition ≤ end) × (end ≤ length held) → score_in edition held end ≡ score_holds edition (entry_in held end)
score_in_lem First held end lies = refl
score_in_lem Second held end lies = rw (le-leb 9 end lies.0, le-leb end (length held) lies.1, word_in held end lies.0)

-- the batch behind the score
behind : (held : List ℕ) (end : ℕ) → (9 ≤ end) × (end ≤ length held) → drop 4 (take (end - 5) (drop 5 held)) ≡ take (end - 9) (drop 9 held)
behind held end lies =
    let all : end - 5 ≡ 4 + (end - 9) = omega arith in
    let four : length (take 4 (drop 5 held)) ≡ 4 = length-take-le 4 (drop 5 held) (omega (arith, length-drop 5 held)) in
    ap (λ (n : ℕ). drop 4 (take n (drop 5 held))) all
    ∙ ap (drop 4) (take-add 4 (end - 9) (drop 5 held))
    ∙ drop_at (take 4 (drop 5 held)) (take (end - 9) (drop 4 (drop 5 held))) 4 four
    ∙ ap (take (end - 9)) (drop-drop 4 5 held)

pub submission_in : (edition : Edition) (held : List ℕ) (end : ℕ) → (batch_start edition ≤ end) × (end ≤ length held)
    → submission edition (entry_in held end) ≡ record { client = get_or held 4 0; batch = take (end - batch_start edition) (drop (batch_start edition) held) }
submission_in First held end lies = refl
submission_in Second held end lies = rw (behind held end lies)
