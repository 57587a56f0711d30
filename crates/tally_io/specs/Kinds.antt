-- The two kinds of files that are added to totals (02, request 14: "The tally reads many files of both editions"; lots are ours: docs/DECISIONS).
use Rattle.std.specs.Prelude.{Bool, true, false, List, ℕ}
use Rattle.totals.specs.declared.Totals.{Totals}
use Rattle.totals.specs.declared.Answer.{Answer}
use Rattle.totals_io.specs.Lots.{AddsText}
use Rattle.tally.specs.Tally.{Adds}

-- what adding a file promises: of a lot its printed totals are added, and else the file is a replay file
unfoldable pub AddsOf : (lots : Bool) → Totals → (file : List ℕ) → Answer → Type 0
AddsOf true totals file answer = AddsText totals file answer
AddsOf false totals file answer = Adds totals file answer
