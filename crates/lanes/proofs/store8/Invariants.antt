use Rattle.std.proofs.Common.{◌≡◌, ℕ, ◌+◌, ◌*◌, ◌/◌, ◌%◌, ◌≤◌, ◌<◌, get_or}
use Rattle.lanes.proofs.store8.Given as goal

abbrev pub invariant-loop-i : goal.invariant-loop-i
invariant-loop-i l = record {
  low : (k : ℕ) → k < l.i → get_or l.d (l.o + k * 2) 0 ≡ get_or l.r k 0 % 256;
  high : (k : ℕ) → k < l.i → get_or l.d (l.o + k * 2 + 1) 0 ≡ get_or l.r k 0 / 256;
  under : (j : ℕ) → j < l.o → get_or l.d j 0 ≡ get_or l.initial.d j 0;
  past : (j : ℕ) → l.o + l.i * 2 ≤ j → get_or l.d j 0 ≡ get_or l.initial.d j 0;
}
