use mathlib.Core.Path.{◌≡◌}
use lib.ListN.{length}
use Rattle.totals.specs.Sums.{Exact}
use Rattle.totals.proofs.add_counts.Given as goal

abbrev pub invariant-loop-k : goal.invariant-loop-k
invariant-loop-k l = record { sized : length l.sum ≡ 14; exact : Exact l.counts l.more l.sum l.k }
