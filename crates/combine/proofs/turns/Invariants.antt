use Rattle.lanes.specs.Lanes.{Done}
use Rattle.plan.specs.Blend.{blend_at}
use Prim.Native.Nat.{◌*◌}
use mathlib.Core.Path.{◌≡◌}
use lib.ListN.{length}
use Rattle.combine.proofs.turns.Given as goal

abbrev pub invariant-loop-k : goal.invariant-loop-k
invariant-loop-k l = record { same_length : length l.d ≡ length l.initial.d; blended : Done (blend_at l.p.rule l.s l.initial.d) l.initial.d l.d 0 (l.k * 16) }
