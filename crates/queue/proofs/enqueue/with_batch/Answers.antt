use Rattle.queue.specs.Calls.{with_batch}
use Rattle.queue.proofs.enqueue.with_batch.Goals as goal

pub returns : goal.returns
unfolding with_batch
returns c = rw (c.no_staged-after.ensures, c.next_ticket.ensures, c.with_slot_ready-filled.ensures, c.raise_pending-raised.ensures)
