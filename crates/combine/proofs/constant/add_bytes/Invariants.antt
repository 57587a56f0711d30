use Rattle.pixel.specs.Rules.{blend_mode_factors}
use Rattle.pixel.specs.declared.blend.BlendMode.TheVariants.{Add}
use Rattle.lanes.specs.Lanes.{Done}
use Rattle.plan.specs.Blend.{blend_at}
use mathlib.Core.Path.{◌≡◌}
use lib.ListN.{length}
use Rattle.combine.proofs.constant.add_bytes.Given as goal

abbrev pub invariant-loop-j : goal.invariant-loop-j
invariant-loop-j l = record { same_length : length l.d ≡ length l.initial.d; added : Done (blend_at (blend_mode_factors Add) l.s l.initial.d) l.initial.d l.d l.a l.j }
