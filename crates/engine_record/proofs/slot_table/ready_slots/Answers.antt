use Rattle.std.proofs.Common.{rules, arith}
use Rattle.engine_record.proofs.Slots.{ready_is}
use Rattle.engine_record.proofs.slot_table.ready_slots.Goals as goal

pub returns : goal.returns
returns c = ready_is c.args.slots.now c.count.result (omega (arith, c.told-slots)) (search rules)
