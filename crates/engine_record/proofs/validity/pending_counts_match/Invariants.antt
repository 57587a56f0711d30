use Rattle.std.proofs.Common.{◌≡◌, drop}
use Rattle.engine_record.specs.Slots.{ready_batches}
use Rattle.engine_record.specs.Clients.{pending_counts_match}
use Rattle.engine_record.proofs.validity.pending_counts_match.Given as goal

abbrev pub invariant-loop-id : goal.invariant-loop-id
invariant-loop-id l = pending_counts_match l.id (drop l.id l.clients) (ready_batches l.slots) ≡ pending_counts_match 0 l.clients (ready_batches l.slots)
