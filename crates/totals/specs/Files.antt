-- Files added to totals one after another (02, request 14: "A count that would pass the largest 64-bit number ends the tally: 19, count too large, totals
-- as before that file"). What the bytes of a file add is the argument `Adds`: the records of a replay file, or the printed totals of a lot.
use Rattle.std.specs.Prelude.{◌≡◌, true, false, List, [], ◌∷◌, ℕ, ◌+◌, ◌≤◌, length}
use Rattle.totals.specs.declared.Totals.{Totals}
use Rattle.totals.specs.declared.Answer.{Answer}
use Rattle.totals.specs.declared.Outcome.{Outcome}
use Rattle.totals.specs.declared.FilesOutcome.{FilesOutcome}
use Rattle.totals.specs.Totals.{unchanged}

abbrev pub Files : Type 0
Files = List (List ℕ)

-- the totals after these files, each added as promised, and none refused
pub data AddedAll (Adds : Totals → (file : List ℕ) → Answer → Type 0) : Totals → Files → Totals → Type 0 where
  nil : {totals : Totals} → AddedAll Adds totals [] totals
  cons : {totals after : Totals} {file : List ℕ} {files : Files} {answer : Answer}
      → Adds totals file answer → answer.refusal ≡ 0 → AddedAll Adds answer.totals files after → AddedAll Adds totals (file ∷ files) after

-- ---- what the system reads: which bytes of a file, and whether it can read them, no contract can say

-- a file: if it was read, some bytes were added as promised, and else nothing is
pub record AddsFile (Adds : Totals → (file : List ℕ) → Answer → Type 0) (totals : Totals) (r : Outcome) : Type 0 where
  pub file : List ℕ
  pub added : r.read ≡ true → Adds totals file r.answer
  pub unread : r.read ≡ false → r.answer ≡ unchanged totals

-- the file that was refused: the totals are those before it
pub record Refused (Adds : Totals → (file : List ℕ) → Answer → Type 0) (answer : Answer) : Type 0 where
  pub file : List ℕ
  pub refusal : answer.refusal ≡ 19
  pub refused : Adds answer.totals file answer

-- so many files, one after another: those that were read are added, all of them, or up to one that is refused
pub record AddsFiles (Adds : Totals → (file : List ℕ) → Answer → Type 0) (totals : Totals) (number : ℕ) (r : FilesOutcome) : Type 0 where
  pub files : Files
  pub added : AddedAll Adds totals files r.answer.totals
  pub all : r.answer.refusal ≡ 0 → length files + r.unread ≡ number
  pub refused : (r.answer.refusal ≡ 0 → ⊥) → Refused Adds r.answer × (length files + r.unread + 1 ≤ number)
