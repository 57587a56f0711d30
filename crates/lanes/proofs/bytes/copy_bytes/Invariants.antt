use mathlib.Core.Path.{◌≡◌}
use Prim.Native.Nat.{◌+◌}
use lib.ListN.{length}
use Rattle.lanes.specs.Lanes.{Done}
use Rattle.lanes.specs.Apart.{moved_byte}
use Rattle.lanes.proofs.bytes.copy_bytes.Given as goal

abbrev pub invariant-loop-j : goal.invariant-loop-j
invariant-loop-j l = record {
  same_length : length l.memory ≡ length l.initial.memory;
  moved : Done (moved_byte l.initial.memory l.to l.from) l.initial.memory l.memory (l.to + l.a) (l.to + l.j);
}
