-- The totals after the replay files of the arguments (02, request 14: "Each count equals the sum over the files of a definition, .. if none grows too large").
-- proofs/files/Sums.antt proves `ArgumentSums`.
use Rattle.std.specs.Prelude.{◌≡◌, false, List, ℕ, ◌+◌, ◌≤◌, length}
use Rattle.totals.specs.declared.Totals.{Totals}
use Rattle.totals.specs.declared.FilesOutcome.{FilesOutcome}
use Rattle.totals.specs.Totals.{largest}
use Rattle.totals.specs.Files.{Files, AddsFiles}
use Rattle.tally.specs.Counts.{Count, file_count}
use Rattle.tally.specs.Tally.{total_of}
use Rattle.tally.specs.Sums.{files_count}
use Rattle.tally_io.specs.Kinds.{AddsOf}

-- a file that would take a count of these totals too far
pub record TooMuch (totals : Totals) : Type 0 where
  pub file : List ℕ
  pub large : ((count : Count) → total_of count totals + file_count count file ≤ largest) → ⊥

-- each count is what it was and the sum over the files that were added: all that could be read, or those before one that is too much
pub record SumOfFiles (totals : Totals) (number : ℕ) (r : FilesOutcome) : Type 0 where
  pub files : Files
  pub sums : (count : Count) → total_of count r.answer.totals ≡ total_of count totals + files_count count files
  pub all : r.answer.refusal ≡ 0 → length files + r.unread ≡ number
  pub refused : (r.answer.refusal ≡ 0 → ⊥) → (r.answer.refusal ≡ 19) × TooMuch r.answer.totals

-- so it is whenever replay files are added as the loop over the arguments promises
abbrev pub ArgumentSums : Type 0
ArgumentSums = (totals : Totals) (number : ℕ) (r : FilesOutcome) → AddsFiles (AddsOf false) totals number r → SumOfFiles totals number r
