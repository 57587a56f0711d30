-- The record rules, one by one (01, "Engine, desks, queue", below the table; 02, 6 and 11). A call on a record that breaks one is refused with 11.
use Rattle.std.specs.Prelude.{ℕ, ◌+◌, ◌%◌, Bool, true, cond, not, ◌&&◌, List, [], ◌∷◌, ◌==◌, nat_le, nat_lt}
use Rattle.ring.specs.Segment.{wrap_offset}
use Rattle.engine_record.specs.declared.Batch.{Batch}
use Rattle.engine_record.specs.declared.EngineRecord.{EngineRecord}
use Rattle.engine_record.specs.Setup.{bad_ring, bad_memory, bad_length}
use Rattle.engine_record.specs.Slots.{ready_batches, total_length}
use Rattle.engine_record.specs.Tickets.{tickets_consecutive}
use Rattle.engine_record.specs.Clients.{is_open, open_windows, windows_valid, pending_counts_match}
use Rattle.engine_record.specs.Staged.{is_idle, slot_held}
use Rattle.engine_record.specs.Queue.{ready_slots, taken_bytes, waiting}

-- "the conditions of 1, 2 and 4 don't occur": of 1
abbrev pub ring_rule : EngineRecord → Bool
ring_rule engine = not (bad_ring engine.setup)

-- the same of 2
abbrev pub memory_rule : EngineRecord → Bool
memory_rule engine = not (bad_memory engine.setup)

-- and of 4, for every open client. "At most four desks": a record has four places
abbrev pub windows_rule : EngineRecord → Bool
windows_rule engine = windows_valid engine.setup (open_windows engine)

-- "the read offset is a multiple of 4 below the ring length"
abbrev pub read_rule : EngineRecord → Bool
read_rule engine = (engine.read_offset % 4) == 0 && nat_lt engine.read_offset engine.setup.ring

-- "tickets are consecutive and the newest is the one before the next to be given": with n ready batches, each of the n tickets before the
-- next one is that of some ready batch, so that each batch has one of them and no two have the same
abbrev pub tickets_rule : EngineRecord → Bool
tickets_rule engine = tickets_consecutive (ready_slots engine) engine.next_ticket engine.slots

-- "ready batches, in ticket order, lie end to end from it"
unfoldable pub end_to_end : (ring offset : ℕ) → List Batch → Bool
end_to_end ring offset [] = true
end_to_end ring offset (b ∷ bs) = b.offset == offset && end_to_end ring (wrap_offset ring (offset + b.length)) bs

-- that of the ready batches
abbrev pub end_to_end_rule : EngineRecord → Bool
end_to_end_rule engine = end_to_end engine.setup.ring engine.read_offset (waiting engine)

-- "with lengths allowed by 6"
unfoldable pub lengths_allowed : (ring : ℕ) → List Batch → Bool
lengths_allowed ring [] = true
lengths_allowed ring (b ∷ bs) = not (bad_length ring b.length) && lengths_allowed ring bs

-- that of the ready batches
abbrev pub lengths_rule : EngineRecord → Bool
lengths_rule engine = lengths_allowed engine.setup.ring (waiting engine)

-- "in total at most the ring"
abbrev pub total_rule : EngineRecord → Bool
total_rule engine = nat_le (total_length (waiting engine)) engine.setup.ring

-- "each of an open desk"
unfoldable pub clients_open : EngineRecord → List Batch → Bool
clients_open engine [] = true
clients_open engine (b ∷ bs) = is_open engine b.client && clients_open engine bs

-- that of the ready batches
abbrev pub owners_rule : EngineRecord → Bool
owners_rule engine = clients_open engine (waiting engine)

-- "pending counts equal the ready batches"
abbrev pub pending_rule : EngineRecord → Bool
pending_rule engine = pending_counts_match 0 engine.clients (ready_batches engine.slots)

-- while nothing is staged, no number of a staged submission is there
abbrev pub idle_rule : EngineRecord → Bool
idle_rule engine = engine.staged.client == 0 && engine.staged.slot == 0 && engine.staged.received == 0

-- 02, 6, the unfinished batch: "of an open desk", "its length allowed by 6 and counted in the total, its bytes so far fewer than that length, one slot
-- held". "Right after the newest ready one" it lies by `write_offset`, which no number of the record says.
abbrev pub unfinished_rule : EngineRecord → Bool
unfinished_rule engine =
    is_open engine engine.staged.client && not (bad_length engine.setup.ring engine.staged.total) && nat_le (taken_bytes engine) engine.setup.ring
    && nat_lt engine.staged.received engine.staged.total && slot_held engine.slots engine.staged.slot

-- "The record rules gain the unfinished batch"
abbrev pub staged_rule : EngineRecord → Bool
staged_rule engine = cond (is_idle engine.staged) (idle_rule engine) (unfinished_rule engine)

-- the rules of the numbers
abbrev pub number_rules : EngineRecord → Bool
number_rules engine = ring_rule engine && memory_rule engine && read_rule engine

-- the rules of the ready batches
abbrev pub batch_rules : EngineRecord → Bool
batch_rules engine = tickets_rule engine && end_to_end_rule engine && lengths_rule engine && total_rule engine && owners_rule engine

-- every rule is kept
unfoldable pub valid : EngineRecord → Bool
valid engine = number_rules engine && windows_rule engine && batch_rules engine && pending_rule engine && staged_rule engine
