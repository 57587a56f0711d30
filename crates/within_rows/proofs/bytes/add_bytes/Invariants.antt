use mathlib.Core.Path.{◌≡◌}
use Prim.Native.Nat.{◌+◌}
use lib.ListN.{length}
use Rattle.pixel.specs.Rules.{blend_mode_factors}
use Rattle.pixel.specs.declared.blend.BlendMode.TheVariants.{Add}
use Rattle.lanes.specs.Lanes.{Done}
use Rattle.within_rows.specs.Within.{blend_within}
use Rattle.within_rows.proofs.bytes.add_bytes.Given as goal

abbrev pub invariant-loop-j : goal.invariant-loop-j
invariant-loop-j l = record { same_length : length l.m ≡ length l.initial.m; added : Done (blend_within (blend_mode_factors Add) l.initial.m l.to l.from) l.initial.m l.m l.to (l.to + l.j) }
