use mathlib.Core.Path.{◌≡◌}
use mathlib.Core.List.{List}
use Prim.Native.Nat.{ℕ, ◌*◌, ◌≤◌}
use lib.ListN.{length}
use Rattle.totals.specs.Lines.{count_lines}
use Rattle.totals.specs.Reading.{FourteenCounts}
use Rattle.totals.proofs.lines.Finding.{Going}
use Rattle.totals.proofs.lines.find_totals.Given as goal

abbrev pub invariant-loop-k : goal.invariant-loop-k
invariant-loop-k l = record {
  sized : length l.counts ≡ 14;
  bounded : l.at ≤ 700 * l.k;
  going : (own : List ℕ) → FourteenCounts own → l.text ≡ count_lines 0 own → Going l.text l.counts l.at l.k own;
}
