-- Totals read from a text: those whose lines it is.
use Rattle.std.specs.Prelude.{◌≡◌, true, List, ℕ, ◌≤◌, length, get_or}
use Rattle.totals.specs.declared.Totals.{Totals}
use Rattle.totals.specs.Totals.{largest}
use Rattle.totals.specs.declared.lines.Reading.{Reading}
use Rattle.totals.specs.Lines.{count_lines, totals_text}

-- fourteen numbers of 64 bits, as all totals of the code are
pub record FourteenCounts (counts : List ℕ) : Type 0 where
  pub size : length counts ≡ 14
  pub small : (k : ℕ) → get_or counts k 0 ≤ largest

pub record Reads (text : List ℕ) (r : Reading) : Type 0 where
  -- the text is what the totals that were read print, fourteen numbers of 64 bits: any other one is refused
  pub exact : r.ok ≡ true → text ≡ totals_text r.totals
  pub counts : r.ok ≡ true → FourteenCounts r.totals.counts
  -- and what totals print reads back as them
  pub back : (totals : Totals) → FourteenCounts totals.counts → text ≡ totals_text totals → (r.ok ≡ true) × (r.totals ≡ totals)

-- Internal: numbers found in a text: those of the counts whose lines it is, if it is that of counts
abbrev pub Finds : (text counts : List ℕ) → Type 0
Finds text counts = (own : List ℕ) → FourteenCounts own → text ≡ count_lines 0 own → counts ≡ own
