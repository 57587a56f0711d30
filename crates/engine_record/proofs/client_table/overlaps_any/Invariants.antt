use Rattle.std.proofs.Common.{◌≡◌, drop}
use Rattle.engine_record.specs.Clients.{windows_of, overlaps_any}
use Rattle.engine_record.proofs.client_table.overlaps_any.Given as goal

abbrev pub invariant-loop-client : goal.invariant-loop-client
invariant-loop-client l = overlaps_any l.bytes (windows_of (drop l.client-index l.clients)) ≡ overlaps_any l.bytes (windows_of l.clients)
