-- Ready batches by their tickets (01, "Engine, desks, queue": "tickets go on from 4,294,967,295 to 0").
use Rattle.std.specs.Prelude.{ℕ, zero, suc, ◌+◌, ◌-◌, ◌%◌, Bool, true, false, cond, ◌&&◌, List, [], ◌∷◌, length, ◌==◌, nat_lt, slice_index_or, Option, Some, None}
use Rattle.engine_record.specs.declared.Batch.{Batch}
use Rattle.engine_record.specs.Slots.{free}

-- the ticket that is given after another
abbrev pub ticket_after : ℕ → ℕ
ticket_after ticket = (ticket + 1) % 4294967296

-- the ticket that is given k before the one that is next
abbrev pub ticket_before : (next k : ℕ) → ℕ
ticket_before next k = (next + (4294967296 - k)) % 4294967296

-- the slot is ready with the ticket
abbrev pub has_ticket : ℕ → Option Batch → Bool
has_ticket ticket None = false
has_ticket ticket (Some b) = b.ticket == ticket

-- the first slot that is ready with the ticket; the number of slots if none is
unfoldable pub slot_of_ticket : ℕ → List (Option Batch) → ℕ
slot_of_ticket ticket [] = 0
slot_of_ticket ticket (s ∷ ss) = cond (has_ticket ticket s) 0 (suc (slot_of_ticket ticket ss))

-- some ready batch has the ticket
abbrev pub is_ready_ticket : ℕ → List (Option Batch) → Bool
is_ready_ticket ticket slots = nat_lt (slot_of_ticket ticket slots) (length slots)

-- the batch of a slot that is ready; a dummy for a free one; never used
abbrev pub batch_in_state : Option Batch → Batch
batch_in_state None = record { client = 0; ticket = 0; offset = 0; length = 0 }
batch_in_state (Some b) = b

-- the ready batch that has the ticket; asked only where there is one
abbrev pub batch_of_ticket : ℕ → List (Option Batch) → Batch
batch_of_ticket ticket slots = batch_in_state (slice_index_or slots (slot_of_ticket ticket slots) free)

-- each of the k tickets before the next one is that of some ready batch
unfoldable pub tickets_consecutive : (k next : ℕ) → List (Option Batch) → Bool
tickets_consecutive zero next slots = true
tickets_consecutive (suc k) next slots = is_ready_ticket (ticket_before next (suc k)) slots && tickets_consecutive k next slots

-- the ready batches that have these tickets, oldest first
unfoldable pub in_ticket_order : (k next : ℕ) → List (Option Batch) → List Batch
in_ticket_order zero next slots = []
in_ticket_order (suc k) next slots = batch_of_ticket (ticket_before next (suc k)) slots ∷ in_ticket_order k next slots
