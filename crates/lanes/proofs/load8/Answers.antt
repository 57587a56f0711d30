use Rattle.std.proofs.Common.{arith, rules}
use Rattle.lanes.proofs.Laws.{grown}
use Rattle.lanes.proofs.load8.Goals as goal

pub loop-i-preserved : goal.loop-i-preserved
loop-i-preserved c = record {
  sized = search rules;
  loaded = grown _ c.loop-i.r c.loop-i.i _ (omega (arith, c.loop-i.invariant.sized)) c.loop-i.invariant.loaded c.get2.ensures;
}
