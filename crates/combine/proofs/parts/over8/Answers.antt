use Rattle.std.proofs.Common.{arith, rules, ◌∙◌}
use Rattle.lanes.proofs.Laws.{grown}
use Rattle.combine.proofs.parts.Lanes.{over_by}
use Rattle.combine.proofs.parts.over8.Goals as goal

pub loop-i-preserved : goal.loop-i-preserved
loop-i-preserved c = record {
  sized = search rules;
  blended = grown _ c.loop-i.r c.loop-i.i _ (omega (arith, c.loop-i.invariant.sized)) c.loop-i.invariant.blended (c.over_two.ensures ∙ over_by _ _ _ _ (search rules) (search rules) c.top.ensures);
}
