use Rattle.std.proofs.Common.{arith, rules, ◌+◌, ◌*◌}
use Rattle.lanes.proofs.Passes.{none_done, to_end}
use Rattle.solid_rows.proofs.solid.Over.{over-more}
use Rattle.solid_rows.proofs.solid.solid_words.Goals as goal

pub loop-k-init : goal.loop-k-init
loop-k-init c = record { same_length = search rules; laid = none_done _ _ _ }

pub loop-k-preserved : goal.loop-k-preserved
loop-k-preserved c = record {
  same_length = search rules;
  laid = to_end _ _ _ _ (c.loop-k.k * 2 + 2) _ (omega arith) (over-more c.args.s.colour _ c.loop-k.d _ _ (c.loop-k.k * 2) _ (omega arith) (omega arith) c.loop-k.invariant.laid c.solid_word.ensures);
}

pub returns : goal.returns
returns c = to_end _ _ _ _ (c.loop-k.k * 2) _ (omega arith) c.loop-k.invariant.laid
