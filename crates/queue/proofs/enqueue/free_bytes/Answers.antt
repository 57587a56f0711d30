use Rattle.std.proofs.Common.{arith}
use Rattle.queue.proofs.Room.{bytes-taken, taken-small}
use Rattle.queue.proofs.enqueue.free_bytes.Goals as goal

pub overflow_add-result : goal.overflow_add-result
overflow_add-result c =
    omega (arith, c.requires.2, taken-small c.args.engine c.requires.0 c.requires.1)

pub overflow_sub-result : goal.overflow_sub-result
overflow_sub-result c =
    omega (arith, c.requires.2, bytes-taken c.args.engine c.requires.0 c.requires.1)

pub returns : goal.returns
returns c = rw c.requires.2
