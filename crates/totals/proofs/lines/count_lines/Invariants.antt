use mathlib.Core.Path.{◌≡◌}
use lib.ListN.{length, drop}
use Rattle.text.specs.Line.{line_of, appended}
use Rattle.totals.specs.Lines.{count_lines}
use Rattle.totals.proofs.lines.count_lines.Given as goal

abbrev pub invariant-loop-k : goal.invariant-loop-k
invariant-loop-k l = record {
  same_length : length l.line ≡ length l.initial.line;
  sized : length l.counts ≡ 14;
  typed : appended (line_of l.initial.line 0) (count_lines 0 l.counts) ≡ appended (line_of l.line l.end) (count_lines l.k (drop l.k l.counts));
}
