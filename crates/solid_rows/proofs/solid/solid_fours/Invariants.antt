use Rattle.std.proofs.Common.{◌≡◌, ◌-◌, ◌%◌, ◌≤◌, length}
use Rattle.lanes.specs.Lanes.{Done}
use Rattle.solid_rows.specs.Over.{over_at}
use Rattle.solid_rows.proofs.solid.solid_fours.Given as goal

abbrev pub invariant-loop-o : goal.invariant-loop-o
invariant-loop-o l = ((l.o ≤ l.n) × ((l.o % 16 ≡ 0) × (length l.d ≡ length l.initial.d))) × Done (over_at l.s.colour l.initial.d) l.initial.d l.d 0 l.o

abbrev pub decreases-loop-o : goal.decreases-loop-o
decreases-loop-o l = l.n - l.o
