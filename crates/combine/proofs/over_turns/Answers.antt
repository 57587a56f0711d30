use Rattle.pixel.specs.Rules.{blend_mode_factors}
use Rattle.pixel.specs.declared.blend.BlendMode.TheVariants.{SrcOver}
use Rattle.lanes.proofs.Passes.{none_done, to_end}
use Rattle.plan.proofs.Blends.{part_more}
use Prim.Native.Nat.{◌+◌, ◌*◌}
use native.Mathlib.Omega.{arith}
use borrow.Author.Rules.{rules}
use Rattle.combine.proofs.over_turns.Goals as goal

pub loop-k-init : goal.loop-k-init
loop-k-init c = record { same_length = search rules; blended = none_done _ _ _ }

pub loop-k-preserved : goal.loop-k-preserved
loop-k-preserved c = record {
  same_length = search rules;
  blended = to_end _ _ _ _ (c.loop-k.k * 16 + 16) _ (omega arith) (part_more (blend_mode_factors SrcOver) _ _ c.loop-k.d _ _ (c.loop-k.k * 16) _ (omega arith) (omega arith) c.loop-k.invariant.blended c.over_turn.ensures);
}

pub returns : goal.returns
returns c = to_end _ _ _ _ (c.loop-k.k * 16) _ (omega arith) c.loop-k.invariant.blended
