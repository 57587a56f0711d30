use Rattle.std.proofs.Common.{arith}
use Rattle.engine_record.proofs.Slots.{lowest_here, lowest_later, lowest-end}
use Rattle.engine_record.proofs.slot_table.lowest_free.Goals as goal

pub loop-at-init : goal.loop-at-init
loop-at-init c = omega arith

pub returns-then-is_none : goal.returns-then-is_none
returns-then-is_none c =
    let here = lowest_here c.args.slots.now c.loop-at.at (omega (arith, c.told-slots)) c.if-is_none.ensures in
    (omega (arith, c.loop-at.invariant, here), omega arith)

pub loop-at-preserved : goal.loop-at-preserved
loop-at-preserved c = omega (arith, c.loop-at.invariant, lowest_later c.args.slots.now c.loop-at.at (omega (arith, c.told-slots)) c.if-is_none.ensures)

pub returns : goal.returns
returns c = omega (arith, c.loop-at.invariant, lowest-end c.args.slots.now c.loop-at.at (omega (arith, c.told-slots)))
