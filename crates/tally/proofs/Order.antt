-- Sums over files, and their order.
use mathlib.Core.Path.{◌≡◌, refl, sym, ap, ◌∙◌}
use mathlib.Core.Bool.{Bool, true, false, cond}
use mathlib.Core.Logic.{◌⊎◌, inl, inr}
use mathlib.Core.List.{List, [], ◌∷◌, ◌++◌}
use Prim.Native.Nat.{ℕ, zero, suc, ◌+◌, ◌≤◌, ◌<◌}
use native.Mathlib.Omega.{arith}
use lib.Dec.{eqb}
use lib.ListN.{length}
use borrow.Author.Tests.{eqb-true, eqb-false, ne_eqb}
use Rattle.word.proofs.Tests.{split}
use Rattle.batch.specs.Batch.{verdict_of}
use Rattle.model.specs.Calls.{Answer as EngineAnswer, completed}
use Rattle.claims.specs.Engine.{answer_or_refusal}
use Rattle.claims.specs.BatchSemantics.{completion_status_of}
use Rattle.records.specs.declared.Edition.{Edition}
use Rattle.records.specs.Records.{Entry, records}
use Rattle.lines.specs.Lines.{engine_opened, submit_and_run}
use Rattle.lines.specs.Answered.{record_refusal, verdict, ticket_of_count, accepted_from, submit_and_run_all}
use Rattle.lines.proofs.Answered.{promise as answered}
use Rattle.totals.specs.declared.Totals.{Totals}
use Rattle.totals.specs.declared.Answer.{Answer}
use Rattle.totals.specs.Totals.{largest, Position, Added, AddsTotals}
use Rattle.totals.specs.Files.{Files, nil, cons}
use Rattle.totals.proofs.Adding.{Names, adds-named}
use Rattle.task_check.specs.declared.fault.Fault.TheVariants.{ReservedBits, GroupLength, OpenTask, NotWritable, Forbidden, BadSurface, SizeMismatch, OutOfBounds, Overlap}
use Rattle.tally.specs.Counts.{Count, batches, tasks, output_pixels, blended_pixels, faulted, without_score, count_over, batch_of, file_count, position}
use Rattle.tally.proofs.Sums.{few}
use Rattle.tally.specs.Tally.{total_of, Adds}
use Rattle.tally.specs.Sums.{files_count, Tallied, Permuted, same, keep, swap, then, SomeTotals, TallySums}

-- a file that is not refused
small : (totals : Totals) (file : List ℕ) (answer : Answer) → Adds totals file answer → answer.refusal ≡ 0 → (c : Count) → total_of c totals + file_count c file ≤ largest
small totals file answer A e c = go (split largest (total_of c totals + file_count c file))
  where
    go : (largest < total_of c totals + file_count c file) ⊎ (total_of c totals + file_count c file ≤ largest) → total_of c totals + file_count c file ≤ largest
    go (inl h) = let wrong : answer.refusal ≡ 19 = (A.refuses c h).0 in absurd (omega arith)
    go (inr h) = h

sums : (totals after : Totals) (files : Files) → Tallied totals files after → (c : Count) → total_of c after ≡ total_of c totals + files_count c files
unfolding count_over
sums totals after files nil c = omega arith
sums totals after files (cons {file = file} {files = rest} {answer = answer} A e T) c =
    let one : total_of c answer.totals ≡ total_of c totals + file_count c file = (A.adds (small totals file answer A e)).1 c in
    let rest-is = sums answer.totals after rest T c in
    omega (arith, one, rest-is)

accepts : (totals : Totals) (file : List ℕ) (files : Files) (answer : Answer) → Adds totals file answer
    → ((c : Count) → total_of c totals + files_count c (file ∷ files) ≤ largest)
    → (answer.refusal ≡ 0) × ((c : Count) → total_of c answer.totals + files_count c files ≤ largest)
unfolding count_over
accepts totals file files answer A fits =
    let one : (c : Count) → total_of c totals + file_count c file ≤ largest = λ c. omega (arith, fits c) in
    let both = A.adds one in
    (both.0, λ c. omega (arith, fits c, both.1 c))

refuses : (totals : Totals) (file : List ℕ) (answer : Answer) → Adds totals file answer → answer.refusal ≡ 19 → answer.totals ≡ totals
refuses totals file answer A e = go A.only
  where
    go : (answer.refusal ≡ 0) ⊎ ((answer.refusal ≡ 19) × (answer.totals ≡ totals)) → answer.totals ≡ totals
    go (inl h) = absurd (omega arith)
    go (inr h) = h.1

version : (v : ℕ) (bytes : List ℕ) → (v ≡ 1 → ⊥) → (v ≡ 2 → ⊥) → (c : Count) → file_count c (v ∷ bytes) ≡ 0
unfolding file_count records count_over
version v bytes one two c = rw (ne_eqb v 2 two, ne_eqb v 1 one)

empty : (c : Count) → file_count c [] ≡ 0
unfolding file_count records count_over
empty c = refl

permuted : (files files' : Files) → Permuted files files' → (c : Count) → files_count c files ≡ files_count c files'
unfolding count_over
permuted files files' same c = refl
permuted files files' (keep {file = file} p) c = ap (λ (n : ℕ). file_count c file + n) (permuted _ _ p c)
permuted files files' swap c = omega arith
permuted files files' (then p q) c = permuted _ _ p c ∙ permuted _ _ q c

order : (totals after after' : Totals) (files files' : Files) → Permuted files files' → Tallied totals files after → Tallied totals files' after' → (c : Count) → total_of c after ≡ total_of c after'
order totals after after' files files' p T T' c = omega (arith, sums totals after files T c, sums totals after' files' T' c, permuted files files' p c)

lots : (files files' : Files) (c : Count) → files_count c (files ++ files') ≡ files_count c files + files_count c files'
unfolding count_over
lots [] files' c = omega arith
lots (file ∷ files) files' c = omega (arith, lots files files' c)

-- ---- files that fit, in every order

grown : Totals → (file : List ℕ) → Totals
grown totals file = record {
  counts = n batches ∷ n tasks ∷ n output_pixels ∷ n blended_pixels
      ∷ n (faulted ReservedBits) ∷ n (faulted GroupLength) ∷ n (faulted OpenTask) ∷ n (faulted NotWritable) ∷ n (faulted Forbidden)
      ∷ n (faulted BadSurface) ∷ n (faulted SizeMismatch) ∷ n (faulted OutOfBounds) ∷ n (faulted Overlap) ∷ n without_score ∷ [];
}
  where
    n : Count → ℕ
    n c = total_of c totals + file_count c file

grown_by : (totals : Totals) (file : List ℕ) (c : Count) → total_of c (grown totals file) ≡ total_of c totals + file_count c file
unfolding grown
grown_by totals file batches = refl
grown_by totals file tasks = refl
grown_by totals file output_pixels = refl
grown_by totals file blended_pixels = refl
grown_by totals file (faulted ReservedBits) = refl
grown_by totals file (faulted GroupLength) = refl
grown_by totals file (faulted OpenTask) = refl
grown_by totals file (faulted NotWritable) = refl
grown_by totals file (faulted Forbidden) = refl
grown_by totals file (faulted BadSurface) = refl
grown_by totals file (faulted SizeMismatch) = refl
grown_by totals file (faulted OutOfBounds) = refl
grown_by totals file (faulted Overlap) = refl
grown_by totals file without_score = refl

grown-adds : (totals : Totals) (file : List ℕ) → ((c : Count) → total_of c totals + file_count c file ≤ largest) → Adds totals file (record { refusal = 0; totals = grown totals file })
grown-adds totals file fits = record { adds = λ h. (refl, grown_by totals file); refuses = λ c large. absurd (omega (arith, large, fits c)); only = inl refl }

all-tallied : (totals : Totals) (files : Files) → ((c : Count) → total_of c totals + files_count c files ≤ largest) → SomeTotals totals files
unfolding count_over
all-tallied totals [] fits = record { after = totals; tallied = nil }
all-tallied totals (file ∷ files) fits =
    let A = grown-adds totals file (λ c. omega (arith, fits c)) in
    let rest = all-tallied (grown totals file) files (accepts totals file files _ A fits).1 in
    record { after = rest.after; tallied = cons A refl rest.tallied }

every : (totals : Totals) (files files' : Files) → Permuted files files' → ((c : Count) → total_of c totals + files_count c files ≤ largest) → SomeTotals totals files'
every totals files files' p fits = all-tallied totals files' (λ c. omega (arith, fits c, permuted files files' p c))

unrefused : (totals between : Totals) (files before after : Files) (file : List ℕ) (answer : Answer) → Permuted files (before ++ (file ∷ after))
    → ((c : Count) → total_of c totals + files_count c files ≤ largest) → Tallied totals before between → Adds between file answer → answer.refusal ≡ 0
unrefused totals between files before after file answer p fits T A =
    let rest : (c : Count) → total_of c between + files_count c (file ∷ after) ≤ largest =
    λ c. omega (arith, fits c, permuted files (before ++ (file ∷ after)) p c, lots before (file ∷ after) c, sums totals between before T c) in
    (accepts between file after answer A rest).0

-- ---- lots

-- the count at a position

at : ℕ → Count
at k =
    cond (eqb k 0) batches
    (cond (eqb k 1) tasks
    (cond (eqb k 2) output_pixels
    (cond (eqb k 3) blended_pixels
    (cond (eqb k 4) (faulted ReservedBits)
    (cond (eqb k 5) (faulted GroupLength)
    (cond (eqb k 6) (faulted OpenTask)
    (cond (eqb k 7) (faulted NotWritable)
    (cond (eqb k 8) (faulted Forbidden)
    (cond (eqb k 9) (faulted BadSurface)
    (cond (eqb k 10) (faulted SizeMismatch)
    (cond (eqb k 11) (faulted OutOfBounds)
    (cond (eqb k 12) (faulted Overlap)
    without_score))))))))))))

-- this position, or one of those after it
this_or : (k n : ℕ) (own other : Count) → n ≤ k → position own ≡ n → (n + 1 ≤ k → position other ≡ k) → position (cond (eqb k n) own other) ≡ k
this_or k n own other h own_is other-is = go (eqb k n) refl
  where
    go : (b : Bool) → eqb k n ≡ b → position (cond b own other) ≡ k
    go true e = own_is ∙ sym (eqb-true k n e)
    go false e = let apart : k ≡ n → ⊥ = eqb-false k n e in other-is (omega arith)

placed : (k : ℕ) → k < 14 → position (at k) ≡ k
unfolding at
placed k h =
    this_or k 0 _ _ (omega arith) refl (λ a. this_or k 1 _ _ a refl (λ b. this_or k 2 _ _ b refl (λ c. this_or k 3 _ _ c refl (λ d.
    this_or k 4 _ _ d refl (λ e. this_or k 5 _ _ e refl (λ f. this_or k 6 _ _ f refl (λ g. this_or k 7 _ _ g refl (λ i.
    this_or k 8 _ _ i refl (λ j. this_or k 9 _ _ j refl (λ l. this_or k 10 _ _ l refl (λ m. this_or k 11 _ _ m refl (λ n.
    this_or k 12 _ _ n refl (λ o. omega arith)))))))))))))

names : Names Count position
names = record { name = λ p. at p.index; placed = λ p. placed p.index p.below; below = few }

lot : (fresh part totals : Totals) (files : Files) (answer : Answer) → ((c : Count) → total_of c fresh ≡ 0) → Tallied fresh files part → AddsTotals totals part answer
    → Added Count position totals (λ c. files_count c files) answer
lot fresh part totals files answer zeros T A =
    let own : (c : Count) → total_of c part ≡ files_count c files = λ c. omega (arith, sums fresh part files T c, zeros c) in
    let B = adds-named Count position names totals part answer A in
    record {
      adds = λ fits. let all = B.adds (λ c. omega (arith, fits c, own c)) in (all.0, λ c. omega (arith, all.1 c, own c));
      refuses = λ c large. B.refuses c (omega (arith, large, own c));
      only = B.only;
    }

-- totals are never too large
bounded : (totals after : Totals) (files : Files) → Tallied totals files after → ((c : Count) → total_of c totals ≤ largest) → (c : Count) → total_of c after ≤ largest
bounded totals after files nil small-before c = small-before c
bounded totals after files (cons {file = file} {files = rest} {answer = answer} A e T) small-before c =
    bounded answer.totals after rest T (λ d. omega (arith, (A.adds (small totals file answer A e)).1 d, small totals file answer A e d)) c

apart : (fresh one two all : Totals) (files files' : Files) (answer : Answer) → ((c : Count) → total_of c fresh ≡ 0)
    → Tallied fresh files one → Tallied fresh files' two → Tallied fresh (files ++ files') all → AddsTotals one two answer
    → (answer.refusal ≡ 0) × ((c : Count) → total_of c answer.totals ≡ total_of c all)
apart fresh one two all files files' answer zeros T T' U A =
    let B = lot fresh two one files' answer zeros T' A in
    let total : (c : Count) → total_of c one + files_count c files' ≡ total_of c all =
    λ c. omega (arith, sums fresh one files T c, sums fresh all (files ++ files') U c, lots files files' c) in
    let sum = B.adds (λ c. omega (arith, total c, bounded fresh all (files ++ files') U (λ d. omega (arith, zeros d)) c)) in
    (sum.0, λ c. sum.1 c ∙ total c)

runs : (edition : Edition) (ring memory : List ℕ) → length ring ≡ 32768 → length memory ≡ 65536 → (before : List Entry) (entry : Entry) → eqb (record_refusal entry) 0 ≡ true
    → (submit_and_run entry (submit_and_run_all before (engine_opened edition ring memory))).answer
    ≡ completed entry.client (ticket_of_count (accepted_from 0 before)) (completion_status_of (verdict_of (batch_of edition entry)))
unfolding answer_or_refusal
runs edition ring memory long size before entry taken =
    let accepted : record_refusal entry ≡ 0 = eqb-true (record_refusal entry) 0 taken in
    ((answered edition).each ring memory long size before entry).answers ∙ rw accepted

pub promise : TallySums
promise = record { sums = sums; accepts = accepts; version = version; empty = empty; refuses = refuses; order = order; permuted = permuted; every = every; unrefused = unrefused; lots = lots; lot = lot; apart = apart; runs = runs }
