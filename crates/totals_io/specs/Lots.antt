-- Printed totals read from files: those of a lot, which are added, or those that a tally goes on from (02, request 14; their form is ours: docs/DECISIONS).
use Rattle.std.specs.Prelude.{◌≡◌, true, false, ◌⊎◌, List, ℕ}
use Rattle.totals.specs.declared.Totals.{Totals}
use Rattle.totals.specs.declared.Answer.{Answer}
use Rattle.totals.specs.Totals.{unchanged, AddsTotals}
use Rattle.totals.specs.Lines.{totals_text}
use Rattle.totals.specs.Reading.{FourteenCounts, Reads}
use Rattle.totals_io.specs.declared.TotalsFile.{TotalsFile}

-- what a text adds: the totals that print it, fourteen numbers of 64 bits; and any other text nothing
pub record AddsText (totals : Totals) (text : List ℕ) (answer : Answer) : Type 0 where
  pub lines : (other : Totals) → FourteenCounts other.counts → text ≡ totals_text other → AddsTotals totals other answer
  pub nothing : ((other : Totals) → FourteenCounts other.counts → text ≡ totals_text other → ⊥) → answer ≡ unchanged totals
  pub only : (answer.refusal ≡ 0) ⊎ ((answer.refusal ≡ 19) × (answer.totals ≡ totals))

-- a file that was read is some text; which one, and whether it can be read, is the system's, and no contract can say
pub record ReadsFile (r : TotalsFile) : Type 0 where
  pub text : List ℕ
  pub read : r.read ≡ true → Reads text r.reading
  pub unread : r.read ≡ false → r.reading.ok ≡ false
