-- "Each count equals the sum over the files of a definition, whatever order they come in, if none grows too large" (02, request 14).
-- proofs/Order.antt proves `TallySums`.
use Rattle.std.specs.Prelude.{◌≡◌, true, List, [], ◌∷◌, ◌++◌, ℕ, zero, suc, ◌+◌, ◌≤◌, eqb, length}
use Rattle.batch.specs.Batch.{verdict_of}
use Rattle.model.specs.Calls.{completed}
use Rattle.claims.specs.BatchSemantics.{completion_status_of}
use Rattle.records.specs.declared.Edition.{Edition}
use Rattle.records.specs.Records.{Entry}
use Rattle.lines.specs.Lines.{engine_opened, submit_and_run}
use Rattle.lines.specs.Answered.{record_refusal, ticket_of_count, accepted_from, submit_and_run_all}
use Rattle.totals.specs.declared.Totals.{Totals}
use Rattle.totals.specs.declared.Answer.{Answer}
use Rattle.totals.specs.Totals.{largest, Added, AddsTotals}
use Rattle.totals.specs.Files.{Files, AddedAll}
use Rattle.tally.specs.Counts.{Count, count_over, batch_of, file_count, position}
use Rattle.tally.specs.Tally.{total_of, Adds}

-- what the files add to a count
abbrev pub files_count : Count → Files → ℕ
files_count count files = count_over (file_count count) files

-- the totals after these files, one after another, each added as the calls promise, and none refused
abbrev pub Tallied : Totals → Files → Totals → Type 0
Tallied totals files after = AddedAll Adds totals files after

-- the same files in another order
pub data Permuted : Files → Files → Type 0 where
  same : {files : Files} → Permuted files files
  keep : {file : List ℕ} {files files' : Files} → Permuted files files' → Permuted (file ∷ files) (file ∷ files')
  swap : {one two : List ℕ} {files : Files} → Permuted (one ∷ two ∷ files) (two ∷ one ∷ files)
  then : {files files' files'' : Files} → Permuted files files' → Permuted files' files'' → Permuted files files''

-- there are totals after these files
pub record SomeTotals (totals : Totals) (files : Files) : Type 0 where
  pub after : Totals
  pub tallied : Tallied totals files after

pub record TallySums : Type 0 where
  -- each count equals the sum over the files
  pub sums : (totals after : Totals) (files : Files) → Tallied totals files after → (count : Count) → total_of count after ≡ total_of count totals + files_count count files
  -- if none grows too large, no file is refused: not the first, and then none of the others
  pub accepts : (totals : Totals) (file : List ℕ) (files : Files) (answer : Answer) → Adds totals file answer
      → ((count : Count) → total_of count totals + files_count count (file ∷ files) ≤ largest)
      → (answer.refusal ≡ 0) × ((count : Count) → total_of count answer.totals + files_count count files ≤ largest)
  -- a file of another version adds nothing, and an empty one neither
  pub version : (version : ℕ) (bytes : List ℕ) → (version ≡ 1 → ⊥) → (version ≡ 2 → ⊥) → (count : Count) → file_count count (version ∷ bytes) ≡ 0
  pub empty : (count : Count) → file_count count [] ≡ 0
  -- a file that is refused leaves the sum over the files before it
  pub refuses : (totals : Totals) (file : List ℕ) (answer : Answer) → Adds totals file answer → answer.refusal ≡ 19 → answer.totals ≡ totals
  -- whatever order they come in
  pub order : (totals after after' : Totals) (files files' : Files) → Permuted files files' → Tallied totals files after → Tallied totals files' after'
      → (count : Count) → total_of count after ≡ total_of count after'
  -- the sums themselves are the same in every order
  pub permuted : (files files' : Files) → Permuted files files' → (count : Count) → files_count count files ≡ files_count count files'
  -- and if they are not too large the files can be tallied in every order
  pub every : (totals : Totals) (files files' : Files) → Permuted files files' → ((count : Count) → total_of count totals + files_count count files ≤ largest) → SomeTotals totals files'
  -- without a file that is refused, wherever it stands in that order
  pub unrefused : (totals between : Totals) (files before after : Files) (file : List ℕ) (answer : Answer) → Permuted files (before ++ (file ∷ after))
      → ((count : Count) → total_of count totals + files_count count files ≤ largest) → Tallied totals before between → Adds between file answer → answer.refusal ≡ 0
  -- two lots
  pub lots : (files files' : Files) (count : Count) → files_count count (files ++ files') ≡ files_count count files + files_count count files'
  -- the totals of a lot, counted from zero and then added, add what its files do
  pub lot : (fresh part totals : Totals) (files : Files) (answer : Answer) → ((count : Count) → total_of count fresh ≡ 0) → Tallied fresh files part → AddsTotals totals part answer
      → Added Count position totals (λ count. files_count count files) answer
  -- so two lots that are tallied apart and added are the lots together
  pub apart : (fresh one two all : Totals) (files files' : Files) (answer : Answer) → ((count : Count) → total_of count fresh ≡ 0)
      → Tallied fresh files one → Tallied fresh files' two → Tallied fresh (files ++ files') all → AddsTotals one two answer
      → (answer.refusal ≡ 0) × ((count : Count) → total_of count answer.totals ≡ total_of count all)
  -- the batches that count are those that the engine runs: a record that is submitted and not refused is completed, with the number of drawn tasks
  -- and the fault that are counted
  pub runs : (edition : Edition) (ring memory : List ℕ) → length ring ≡ 32768 → length memory ≡ 65536 → (before : List Entry) (entry : Entry) → eqb (record_refusal entry) 0 ≡ true
      → (submit_and_run entry (submit_and_run_all before (engine_opened edition ring memory))).answer
      ≡ completed entry.client (ticket_of_count (accepted_from 0 before)) (completion_status_of (verdict_of (batch_of edition entry)))
