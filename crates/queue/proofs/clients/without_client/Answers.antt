use Rattle.queue.specs.Calls.{without_client}
use Rattle.queue.proofs.clients.without_client.Goals as goal

pub returns : goal.returns
unfolding without_client
returns c = rw c.no_client.ensures
