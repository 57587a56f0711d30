-- What is taken and what is free, each from one definition (01, "Engine, desks, queue"; "The book of demand 3": "free ring bytes are the
-- ring less the waiting lengths").
use Rattle.std.specs.Prelude.{ℕ, ◌+◌, ◌-◌, List, length}
use Rattle.ring.specs.Segment.{wrap_offset}
use Rattle.engine_record.specs.declared.Batch.{Batch}
use Rattle.engine_record.specs.declared.EngineRecord.{EngineRecord}
use Rattle.engine_record.specs.Slots.{ready_batches, total_length}
use Rattle.engine_record.specs.Staged.{staged_slots}
use Rattle.engine_record.specs.Tickets.{in_ticket_order}

-- how many slots are ready
abbrev pub ready_slots : EngineRecord → ℕ
ready_slots engine = length (ready_batches engine.slots)

-- how many ring bytes their batches have
abbrev pub ready_bytes : EngineRecord → ℕ
ready_bytes engine = total_length (ready_batches engine.slots)

-- how many slots are taken: the staged submission counts "as a waiting batch of that length for slots and room" (02, 6)
abbrev pub taken_slots : EngineRecord → ℕ
taken_slots engine = ready_slots engine + staged_slots engine.staged

-- how many ring bytes are taken
abbrev pub taken_bytes : EngineRecord → ℕ
taken_bytes engine = ready_bytes engine + engine.staged.total

-- how many ring bytes are free
abbrev pub free_bytes : EngineRecord → ℕ
free_bytes engine = engine.setup.ring - taken_bytes engine

-- where the next batch goes: "after the newest one (at the read offset if none is ready), going on at byte 0 after the last byte". The staged
-- submission lies there (02, 6: "right after the newest ready one")
abbrev pub write_offset : EngineRecord → ℕ
write_offset engine = wrap_offset engine.setup.ring (engine.read_offset + ready_bytes engine)

-- the ready batches in ticket order, the oldest first: of n ready batches it has the ticket n before the next to be given
abbrev pub waiting : EngineRecord → List Batch
waiting engine = in_ticket_order (ready_slots engine) engine.next_ticket engine.slots
