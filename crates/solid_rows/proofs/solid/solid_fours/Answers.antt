use Rattle.std.proofs.Common.{arith, rules, sym, ◌+◌, ◌-◌}
use Rattle.lanes.proofs.Passes.{none_done, to_end}
use Rattle.solid_rows.proofs.solid.Over.{over-more}
use Rattle.solid_rows.proofs.solid.solid_fours.Goals as goal

pub loop-o-init : goal.loop-o-init
loop-o-init c = (search rules, none_done _ _ _)

pub loop-o-preserved : goal.loop-o-preserved
loop-o-preserved c =
    (search rules, to_end _ _ _ _ (c.loop-o.o + 16) _ (sym c.step-o.ensures) (over-more c.args.s.colour _ c.loop-o.d _ _ c.loop-o.o _ (omega arith) (omega arith) c.loop-o.invariant.1 c.solid_four.ensures))

pub returns : goal.returns
returns c = to_end _ _ _ _ c.loop-o.o _ (omega arith) c.loop-o.invariant.1
