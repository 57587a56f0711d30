use Rattle.lanes.proofs.Passes.{none_done, to_end}
use Rattle.plan.specs.Blend.{blend_at}
use Rattle.plan.proofs.Blends.{byte_more}
use native.Mathlib.Omega.{arith}
use borrow.Author.Rules.{rules}
use Rattle.combine.proofs.parts.blend_bytes.Goals as goal

pub loop-j-init : goal.loop-j-init
loop-j-init c = record { same_length = search rules; blended = none_done _ _ _ }

pub loop-j-preserved : goal.loop-j-preserved
unfolding blend_at
loop-j-preserved c = record {
  same_length = search rules;
  blended = byte_more c.args.p.rule c.args.s.now _ c.loop-j.d _ c.loop-j.j _ (omega arith) (omega arith) c.blend_one.ensures c.loop-j.invariant.blended;
}

pub returns : goal.returns
returns c = to_end _ _ _ _ c.loop-j.j _ (omega arith) c.loop-j.invariant.blended
