use Rattle.std.proofs.Common.{◌≡◌, ◌<◌, ◌≤◌}
use Rattle.engine_record.proofs.Walk.{walk}
use Rattle.engine_record.specs.Clients.{is_open}
use Rattle.engine_record.proofs.validity.batches_valid.Given as goal

abbrev pub invariant-loop-k : goal.invariant-loop-k
invariant-loop-k l =
    (l.offset < l.ring) × (l.room ≤ l.ring)
    × (walk l.ring (is_open l.engine) l.k l.engine.next_ticket l.engine.slots l.offset l.room ≡ walk l.ring (is_open l.engine) l.ready l.engine.next_ticket l.engine.slots l.engine.read_offset l.ring)
