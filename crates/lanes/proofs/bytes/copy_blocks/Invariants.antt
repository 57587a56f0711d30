use mathlib.Core.Path.{◌≡◌}
use Prim.Native.Nat.{◌+◌, ◌-◌, ◌%◌, ◌≤◌}
use lib.ListN.{length}
use Rattle.lanes.specs.Lanes.{Done}
use Rattle.lanes.specs.Apart.{moved_byte}
use Rattle.lanes.proofs.bytes.copy_blocks.Given as goal

abbrev pub invariant-loop-j : goal.invariant-loop-j
invariant-loop-j l = record {
  within : l.j ≤ l.n;
  whole_blocks : l.j % 16 ≡ 0;
  same_length : length l.memory ≡ length l.initial.memory;
  moved : Done (moved_byte l.initial.memory l.to l.from) l.initial.memory l.memory l.to (l.to + l.j);
}

abbrev pub decreases-loop-j : goal.decreases-loop-j
decreases-loop-j l = l.n - l.j
