-- A record that submit takes, by its client and its length.
use mathlib.Core.Path.{◌≡◌, refl, sym, ◌∙◌}
use mathlib.Core.Bool.{Bool, true, false, cond, not, ◌&&◌, ◌||◌}
use mathlib.Core.Logic.{◌⊎◌, inl, inr}
use mathlib.Core.List.{List, append-nil}
use Prim.Native.Nat.{ℕ, ◌%◌, ◌≤◌, ◌<◌}
use native.Mathlib.Omega.{arith}
use lib.ListN.{length}
use lib.Seq.{take_all}
use lib.Dec.{eqb, ltb}
use borrow.Author.Tests.{ltb-false, eqb-false, not-true, lt-ltb, le-leb}
use Rattle.word.specs.Word.{words}
use Rattle.word.proofs.Tests.{split, and-true, or_false}
use Rattle.ring.specs.Segment.{segment, batch_words}
use Rattle.model.specs.Refusals.{bad_length}
use Rattle.records.specs.declared.Edition.TheVariants.{First}
use Rattle.lines.specs.Lines.{setup}
use Rattle.lines.specs.Answered.{record_refusal, replay_window}
use Rattle.records.specs.Records.{Entry}
use Rattle.task_check.specs.declared.task.Bounds.{Bounds}
use Rattle.claims.specs.BatchSemantics.{bounds_of}
use Rattle.std.specs.Prelude.{Option, Some, None}
use Rattle.lines.specs.Submitted.{submitted_as}

abbrev taken : (client size : ℕ) → Bool
taken client size = not (ltb 3 client) && not (eqb size 0 || not (eqb (size % 4) 0) || ltb 32768 size)

refusal-none : (far bad : Bool) → not far && not bad ≡ eqb (cond far 5 (cond bad 6 0)) 0
refusal-none true bad = refl
refusal-none false true = refl
refusal-none false false = refl

pub taken_is : (client : ℕ) (batch : List ℕ) → taken client (length batch) ≡ eqb (record_refusal (record { client = client; batch = batch })) 0
taken_is client batch = refusal-none (ltb 3 client) (bad_length (setup First) (length batch))

pub taken_facts : (client : ℕ) (batch : List ℕ) → eqb (record_refusal (record { client = client; batch = batch })) 0 ≡ true → (client ≤ 3) × (0 < length batch)
taken_facts client batch e =
    let size : ℕ = length batch in
    let bad : Bool = eqb size 0 || not (eqb (size % 4) 0) || ltb 32768 size in
    let both = and-true (not (ltb 3 client)) (not bad) (taken_is client batch ∙ e) in
    let fine : bad ≡ false = not-true bad both.1 in
    let some = eqb-false size 0 (or_false (eqb size 0) (not (eqb (size % 4) 0)) (or_false (eqb size 0 || not (eqb (size % 4) 0)) (ltb 32768 size) fine).0).0 in
    (ltb-false 3 client (not-true (ltb 3 client) both.0), go (split 0 (length batch)) some)
  where
    go : (0 < length batch) ⊎ (length batch ≤ 0) → (length batch ≡ 0 → ⊥) → 0 < length batch
    go (inl h) some = h
    go (inr h) some = absurd (some (omega arith))

-- a batch that lies by itself in a slice
pub whole_words : (xs : List ℕ) → 0 < length xs → batch_words xs 0 (length xs) ≡ words xs
unfolding batch_words segment
whole_words xs some = rw (lt-ltb 0 (length xs) some, le-leb (length xs) (length xs) (omega arith), append-nil xs, take_all (length xs) xs (omega arith))

-- ---- what comes of a record says whether submit takes it

module _ (entry : Entry) (r : Option Bounds) (is : r ≡ submitted_as entry) where
  abbrev within : Option Bounds
  within = Some (bounds_of (replay_window entry.client) 16384)

  pub refused_none : r ≡ None → eqb (record_refusal entry) 0 ≡ false
  refused_none e = go (eqb (record_refusal entry) 0) (sym is ∙ e)
    where
      go : (took : Bool) → cond took within None ≡ None → took ≡ false
      go false same = refl
      go true wrong = absurd (let z : ◌≡◌ {A = ℕ} 0 1 = cc in omega arith)

  pub within-taken : (bounds : Bounds) → r ≡ Some bounds → (eqb (record_refusal entry) 0 ≡ true) × (bounds ≡ bounds_of (replay_window entry.client) 16384)
  within-taken bounds e = go (eqb (record_refusal entry) 0) (sym is ∙ e)
    where
      go : (took : Bool) → cond took within None ≡ Some bounds → (took ≡ true) × (bounds ≡ bounds_of (replay_window entry.client) 16384)
      go false wrong = absurd (let z : ◌≡◌ {A = ℕ} 0 1 = cc in omega arith)
      go true right = (refl, cc)
