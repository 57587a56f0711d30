use Rattle.std.proofs.Common.{rules}
use Rattle.engine_record.proofs.Slots.{owned_is}
use Rattle.engine_record.proofs.slot_table.count_of.Goals as goal

pub returns : goal.returns
returns c = owned_is c.args.client c.args.slots.now c.count.result (search rules)
