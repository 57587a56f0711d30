use Rattle.std.proofs.Common.{◌≡◌, ℕ, ◌+◌, ◌*◌, ◌<◌, length, get_or}
use Rattle.lanes.specs.Lanes.{two}
use Rattle.lanes.proofs.load8.Given as goal

abbrev pub invariant-loop-i : goal.invariant-loop-i
invariant-loop-i l = record { sized : length l.r ≡ 8; loaded : (k : ℕ) → k < l.i → get_or l.r k 0 ≡ two l.s (l.o + k * 2) }
