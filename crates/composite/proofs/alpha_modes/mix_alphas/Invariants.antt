use Rattle.pixel.specs.declared.blend.AlphaMode.TheVariants.{Mixed}
use Rattle.lanes.specs.Lanes.{Done}
use Rattle.composite.specs.Mode.{mode_at}
use Prim.Native.Nat.{◌*◌}
use mathlib.Core.Path.{◌≡◌}
use lib.ListN.{length}
use Rattle.composite.proofs.alpha_modes.mix_alphas.Given as goal

abbrev pub invariant-loop-x : goal.invariant-loop-x
invariant-loop-x l = (length l.row ≡ length l.initial.row) × Done (mode_at Mixed l.a l.initial.row) l.initial.row l.row 0 (l.x * 4)
