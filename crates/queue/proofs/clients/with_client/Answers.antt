use Rattle.queue.specs.Calls.{with_client}
use Rattle.queue.proofs.clients.with_client.Goals as goal

pub returns : goal.returns
unfolding with_client
returns c = rw c.requires.0
