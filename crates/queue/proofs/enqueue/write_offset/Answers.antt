use Rattle.std.proofs.Common.{arith}
use Rattle.queue.proofs.Room.{offset-small}
use Rattle.queue.proofs.enqueue.write_offset.Goals as goal

pub overflow_add-engine : goal.overflow_add-engine
overflow_add-engine c =
    omega (arith, c.requires.2, offset-small c.args.engine c.requires.0 c.requires.1)

pub returns : goal.returns
returns c = rw (c.wrap_offset.ensures, c.requires.2)
