use Rattle.std.proofs.Common.{arith}
use Rattle.engine_record.proofs.Slots.{sum_ready, sum_free, sum-end}
use Rattle.engine_record.proofs.slot_table.ready_bytes.Goals.{in-Some, in_default}
use Rattle.engine_record.proofs.slot_table.ready_bytes.Goals as goal

pub overflow_add-bytes : goal.overflow_add-bytes
overflow_add-bytes c = omega (arith, sum_ready c.args.slots.now c.loop-slot.slot-index (omega (arith, c.told-slots)) (λ b. b.length) c.in-Some.batch c.in-Some.is)

pub loop-slot-preserved : goal.loop-slot-preserved
loop-slot-preserved c = elim c.match-slot.branch [
  | in-Some w ↦ omega (arith, w.bytes-is, sum_ready c.args.slots.now c.loop-slot.slot-index (omega (arith, c.told-slots)) (λ b. b.length) w.in-Some.batch w.in-Some.is)
  | in_default w ↦ omega (arith, w.bytes-is, sum_free c.args.slots.now c.loop-slot.slot-index (omega (arith, c.told-slots)) (λ b. b.length) w.in_default.is)
]

pub returns : goal.returns
returns c = omega (arith, sum-end c.args.slots.now c.loop-slot.slot-index (omega arith) (λ b. b.length))
