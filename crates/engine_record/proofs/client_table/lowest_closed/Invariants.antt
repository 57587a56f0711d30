use Rattle.std.proofs.Common.{◌≡◌, ◌+◌, drop}
use Rattle.engine_record.specs.Clients.{lowest_closed}
use Rattle.engine_record.proofs.client_table.lowest_closed.Given as goal

abbrev pub invariant-loop-id : goal.invariant-loop-id
invariant-loop-id l = l.id + lowest_closed (drop l.id l.clients) ≡ lowest_closed l.clients
