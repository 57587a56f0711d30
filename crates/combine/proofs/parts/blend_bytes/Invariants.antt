use Rattle.lanes.specs.Lanes.{Done}
use Rattle.plan.specs.Blend.{blend_at}
use mathlib.Core.Path.{◌≡◌}
use lib.ListN.{length}
use Rattle.combine.proofs.parts.blend_bytes.Given as goal

abbrev pub invariant-loop-j : goal.invariant-loop-j
invariant-loop-j l = record { same_length : length l.d ≡ length l.initial.d; blended : Done (blend_at l.p.rule l.s l.initial.d) l.initial.d l.d l.a l.j }
