use Rattle.std.proofs.Common.{arith, rules, ◌∙◌}
use Rattle.pixel.specs.Rules.{blend_mode_factors}
use Rattle.pixel.specs.declared.blend.BlendMode.TheVariants.{SrcOver}
use Rattle.lanes.proofs.Laws.{grown}
use Rattle.combine.proofs.parts.Lanes.{over_by}
use Rattle.within_rows.proofs.blend.Fours.{four-blended}
use Rattle.within_rows.proofs.blend.over_four.Goals as goal

pub loop-i-preserved : goal.loop-i-preserved
loop-i-preserved c = record {
  sized = search rules;
  blended = grown _ c.loop-i.r c.loop-i.i _ (omega (arith, c.loop-i.invariant.sized)) c.loop-i.invariant.blended (c.over_two.ensures ∙ over_by _ _ _ _ (search rules) (search rules) c.top.ensures);
}

pub returns : goal.returns
returns c =
    let a = c.args in
    four-blended a.m.now c.loop-i.r c.store8.new.d a.to a.from (λ j. omega (arith, c.slice_known-1.given j))
    c.store8.ensures.low c.store8.ensures.high c.store8.ensures.under c.store8.ensures.past
    (blend_mode_factors SrcOver) c.load8-s.result c.load8-d.result c.load8-s.ensures c.load8-d.ensures (λ k h. c.loop-i.invariant.blended k (omega arith))
