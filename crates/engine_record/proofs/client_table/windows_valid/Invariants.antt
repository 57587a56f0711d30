use Rattle.std.proofs.Common.{◌≡◌, length}
use Rattle.engine_record.specs.Clients.{windows_of, windows_valid}
use Rattle.engine_record.proofs.client_table.windows_valid.Given as goal

abbrev pub invariant-loop-client : goal.invariant-loop-client
invariant-loop-client l = windows_valid l.setup (windows_of l.rest) ≡ windows_valid l.setup (windows_of l.clients)

abbrev pub decreases-loop-client : goal.decreases-loop-client
decreases-loop-client l = length l.rest
