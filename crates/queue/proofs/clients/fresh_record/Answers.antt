use Rattle.queue.specs.Calls.{initial_record}
use Rattle.queue.proofs.clients.fresh_record.Goals as goal

pub returns : goal.returns
unfolding initial_record
returns c = rw (c.no_staged.ensures, c.no_client-clients.ensures)
