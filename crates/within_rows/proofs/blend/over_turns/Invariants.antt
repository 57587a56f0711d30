use mathlib.Core.Path.{◌≡◌}
use Prim.Native.Nat.{◌+◌, ◌-◌, ◌%◌, ◌≤◌}
use lib.ListN.{length}
use Rattle.pixel.specs.Rules.{blend_mode_factors}
use Rattle.pixel.specs.declared.blend.BlendMode.TheVariants.{SrcOver}
use Rattle.lanes.specs.Lanes.{Done}
use Rattle.within_rows.specs.Within.{blend_within}
use Rattle.within_rows.proofs.blend.over_turns.Given as goal

abbrev pub invariant-loop-o : goal.invariant-loop-o
invariant-loop-o l = ((l.o ≤ l.n) × (l.o % 16 ≡ 0)) × (length l.m ≡ length l.initial.m) × Done (blend_within (blend_mode_factors SrcOver) l.initial.m l.to l.from) l.initial.m l.m l.to (l.to + l.o)

abbrev pub decreases-loop-o : goal.decreases-loop-o
decreases-loop-o l = l.n - l.o
