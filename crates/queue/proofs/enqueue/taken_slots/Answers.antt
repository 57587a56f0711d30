use Rattle.std.proofs.Common.{arith}
use Rattle.queue.proofs.enqueue.taken_slots.Goals as goal

pub overflow_add-result : goal.overflow_add-result
overflow_add-result c = omega (arith, c.staged_slots-held.ensures.1, c.requires.0, c.requires.1)

pub returns : goal.returns
returns c = rw (c.staged_slots-held.ensures.0, c.requires.1)
