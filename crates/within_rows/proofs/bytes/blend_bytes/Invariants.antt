use mathlib.Core.Path.{◌≡◌}
use Prim.Native.Nat.{◌+◌}
use lib.ListN.{length}
use Rattle.lanes.specs.Lanes.{Done}
use Rattle.within_rows.specs.Within.{blend_within}
use Rattle.within_rows.proofs.bytes.blend_bytes.Given as goal

abbrev pub invariant-loop-j : goal.invariant-loop-j
invariant-loop-j l = record { same_length : length l.m ≡ length l.initial.m; blended : Done (blend_within l.p.rule l.initial.m l.to l.from) l.initial.m l.m (l.to + l.a) (l.to + l.j) }
