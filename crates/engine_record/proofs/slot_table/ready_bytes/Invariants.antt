use Rattle.std.proofs.Common.{◌≡◌, ◌+◌, drop}
use Rattle.engine_record.specs.Slots.{ready_batches, total_length}
use Rattle.engine_record.proofs.slot_table.ready_bytes.Given as goal

abbrev pub invariant-loop-slot : goal.invariant-loop-slot
invariant-loop-slot l = l.bytes + total_length (ready_batches (drop l.slot-index l.slots)) ≡ total_length (ready_batches l.slots)
