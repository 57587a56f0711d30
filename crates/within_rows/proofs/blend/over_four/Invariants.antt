use Rattle.std.proofs.Common.{◌≡◌, ℕ, ◌<◌, length, get_or}
use Rattle.pixel.specs.Rules.{blend_mode_factors}
use Rattle.pixel.specs.declared.blend.BlendMode.TheVariants.{SrcOver}
use Rattle.plan.specs.Blend.{lane_at}
use Rattle.within_rows.proofs.blend.over_four.Given as goal

abbrev pub invariant-loop-i : goal.invariant-loop-i
invariant-loop-i l = record { sized : length l.r ≡ 8; blended : (k : ℕ) → k < l.i → get_or l.r k 0 ≡ lane_at (blend_mode_factors SrcOver) l.s l.d k }
