use mathlib.Core.Path.{◌≡◌}
use Prim.Native.Nat.{◌+◌, ◌*◌}
use lib.ListN.{length, get_or}
use Rattle.lanes.specs.Lanes.{Done}
use Rattle.lanes.proofs.bytes.copy_chunks.Given as goal

abbrev pub invariant-loop-k : goal.invariant-loop-k
invariant-loop-k g l = record { same_length : length l.d ≡ length l.initial.d; copied : Done (λ j. get_or l.s j 0) l.initial.d l.d l.a (l.a + l.k * g.row.N) }
