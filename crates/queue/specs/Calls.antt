-- What each call answers, and record and ring after it, for every record, ring and batch (01, "Engine, desks, queue"). A refusal leaves
-- record and ring as they were. Batches handed over by pieces: 02, 6. Closing: 02, 11.
use Rattle.std.specs.Prelude.{ℕ, zero, suc, ◌+◌, Bool, true, cond, List, [], ◌∷◌, length, ◌==◌, slice_index_or, slice_set, Result}
use Rattle.ring.specs.Segment.{wrap_offset}
use Rattle.reset.specs.declared.ResetRule.{ResetRule}
use Rattle.reset.specs.declared.ResetRule.TheVariants.{Unblended}
use Rattle.ring.specs.Copied.{copied_in}
use Rattle.engine_record.specs.declared.Setup.{Setup}
use Rattle.engine_record.specs.declared.Window.{Window}
use Rattle.engine_record.specs.declared.Client.{Client}
use Rattle.engine_record.specs.declared.Batch.{Batch}
use Rattle.engine_record.specs.declared.EngineRecord.{EngineRecord}
use Rattle.engine_record.specs.declared.Staged.{Staged}
use Rattle.engine_record.specs.Slots.{free, ready_with, ready_batches, count_of, lowest_free}
use Rattle.engine_record.specs.Tickets.{ticket_after}
use Rattle.engine_record.specs.Clients.{no_client, lowest_closed}
use Rattle.engine_record.specs.Staged.{no_staged, missing_bytes}
use Rattle.engine_record.specs.Queue.{write_offset}
use Rattle.queue.specs.declared.Refusal.{Refusal}
use Rattle.queue.specs.declared.Answer.{Answer}
use Rattle.queue.specs.declared.Answer.TheVariants.{Done, Opened, Accepted, Ready, Missing}
use Rattle.queue.specs.declared.Reply.{Reply}
use Rattle.queue.specs.Answers.{answer_unless_refused}
use Rattle.queue.specs.Refusals.{first_refusal, set_up_table, open_table, submit_table, piece_table, cancel_table, close_table, pending_table}

-- a refusal number, 0 for none: what was there, or else what comes of the call
unfoldable pub unless_refused : {A : Type 0} → (number : ℕ) → A → A → A
unless_refused zero before after = after
unless_refused (suc n) before after = before

-- ---- set up

-- "The read offset starts at 0"; no client is open, no slot is ready, and the first ticket is 0
unfoldable pub initial_record : Setup → EngineRecord
initial_record setup = record {
  setup = setup;
  clients = no_client ∷ no_client ∷ no_client ∷ no_client ∷ [];
  slots = free ∷ free ∷ free ∷ free ∷ free ∷ free ∷ free ∷ free ∷ [];
  read_offset = 0;
  next_ticket = 0;
  staged = no_staged;
}

-- what a refused set up is made of
abbrev pub no_setup : Setup
no_setup = record { ring = 0; memory = 0; common = 0; reset = Unblended }

-- a refused set up hands out a record of no engine, which breaks the first rule; no refusal looks at the reset rule
unfoldable pub set_up_result : (ring memory common : ℕ) → ResetRule → Reply
set_up_result ring memory common reset =
    let setup : Setup = record { ring = ring; memory = memory; common = common; reset = reset } in
    let number : ℕ = first_refusal (set_up_table setup) in
    record { answer = answer_unless_refused number Done; engine = unless_refused number (initial_record no_setup) (initial_record setup) }

-- ---- open

-- the record with one client more, at the lowest place that is closed
unfoldable pub with_client : EngineRecord → Window → EngineRecord
with_client engine w = record {
  setup = engine.setup;
  clients = slice_set engine.clients (lowest_closed engine.clients) (record { window = w; pending = 0; opened = true });
  slots = engine.slots;
  read_offset = engine.read_offset;
  next_ticket = engine.next_ticket;
  staged = engine.staged;
}

-- "ids are 0 to 3"; "opening takes the lowest free id" (02, 11)
unfoldable pub open_result : EngineRecord → Window → Reply
open_result engine w =
    let number : ℕ = first_refusal (open_table engine w) in
    record { answer = answer_unless_refused number (Opened (lowest_closed engine.clients)); engine = unless_refused number engine (with_client engine w) }

-- ---- submit

-- the new batch has the next ticket and lies after the newest one
abbrev pub new_batch : EngineRecord → (client size : ℕ) → Batch
new_batch engine client size = record { client = client; ticket = engine.next_ticket; offset = write_offset engine; length = size }

-- the clients with one batch more pending for one of them
abbrev pub pending_raised : List Client → ℕ → List Client
pending_raised clients client = slice_set clients client (record { window = (slice_index_or clients client no_client).window; pending = (slice_index_or clients client no_client).pending + 1; opened = (slice_index_or clients client no_client).opened })

-- the record with the batch in the slot `at`. No submission is staged then: a submit with one is refused (13), and the last piece ends it
unfoldable pub with_batch : EngineRecord → (at : ℕ) → Batch → EngineRecord
with_batch engine at batch = record {
  setup = engine.setup;
  clients = pending_raised engine.clients batch.client;
  slots = slice_set engine.slots at (ready_with batch);
  read_offset = engine.read_offset;
  next_ticket = ticket_after engine.next_ticket;
  staged = no_staged;
}

-- what submit is refused with, 0 if it is accepted
abbrev pub submit_number : EngineRecord → (ring : List ℕ) → (client : ℕ) → (batch : List ℕ) → ℕ
submit_number engine ring client batch = first_refusal (submit_table engine (length ring) client (length batch))

-- "It takes the lowest free of eight slots"
abbrev pub submitted : EngineRecord → (client size : ℕ) → EngineRecord
submitted engine client size = with_batch engine (lowest_free engine.slots) (new_batch engine client size)

-- the ticket is the one that was next
unfoldable pub submit_result : EngineRecord → (ring : List ℕ) → (client : ℕ) → (batch : List ℕ) → Reply
submit_result engine ring client batch =
    let number : ℕ = submit_number engine ring client batch in
    record { answer = answer_unless_refused number (Accepted engine.next_ticket); engine = unless_refused number engine (submitted engine client (length batch)) }

-- the ring after it: the batch copied in, other bytes as they were
unfoldable pub submit_ring : EngineRecord → (ring : List ℕ) → (client : ℕ) → (batch : List ℕ) → List ℕ
submit_ring engine ring client batch = unless_refused (submit_number engine ring client batch) ring (copied_in ring (write_offset engine) batch)

-- ---- begin, pieces, cancel (02, 6)

-- the record with another staged submission, or none
unfoldable pub with_staged : EngineRecord → Staged → EngineRecord
with_staged engine staged = record {
  setup = engine.setup;
  clients = engine.clients;
  slots = engine.slots;
  read_offset = engine.read_offset;
  next_ticket = engine.next_ticket;
  staged = staged;
}

-- "begin a batch with its total length": it "holds slot and room", the lowest free slot as by submit; no byte has come
abbrev pub begun : EngineRecord → (client total : ℕ) → Staged
begun engine client total = record { client = client; slot = lowest_free engine.slots; total = total; received = 0 }

-- Begin answers nothing. `ring`: the length of the ring that is lent; it is not written
unfoldable pub begin_result : EngineRecord → (ring client total : ℕ) → Reply
begin_result engine ring client total =
    let number : ℕ = first_refusal (submit_table engine ring client total) in
    record { answer = answer_unless_refused number Done; engine = unless_refused number engine (with_staged engine (begun engine client total)) }

-- so many of its bytes have come
abbrev pub with_received : Staged → (received : ℕ) → Staged
with_received g received = record { client = g.client; slot = g.slot; total = g.total; received = received }

-- with a piece of that length more
abbrev pub more : Staged → (size : ℕ) → Staged
more g size = with_received g (g.received + size)

-- what a piece is refused with, 0 if it is accepted
abbrev pub piece_number : EngineRecord → (ring : List ℕ) → (client : ℕ) → (piece : List ℕ) → ℕ
piece_number engine ring client piece = first_refusal (piece_table engine (length ring) client (length piece))

-- with it the last byte comes
abbrev pub is_last : Staged → (size : ℕ) → Bool
is_last g size = g.received + size == g.total

-- "the last piece makes the batch ready, gives it its ticket and raises pending", in the slot that was held
abbrev pub after_piece : EngineRecord → (size : ℕ) → EngineRecord
after_piece engine size =
    cond (is_last engine.staged size)
    (with_batch engine engine.staged.slot (new_batch engine engine.staged.client engine.staged.total))
    (with_staged engine (more engine.staged size))

-- "A piece answers the bytes still to come, the last its ticket."
abbrev pub piece_answer : EngineRecord → (size : ℕ) → Answer
piece_answer engine size = cond (is_last engine.staged size) (Accepted engine.next_ticket) (Missing (missing_bytes (more engine.staged size)))

unfoldable pub piece_result : EngineRecord → (ring : List ℕ) → (client : ℕ) → (piece : List ℕ) → Reply
piece_result engine ring client piece =
    let number : ℕ = piece_number engine ring client piece in
    record { answer = answer_unless_refused number (piece_answer engine (length piece)); engine = unless_refused number engine (after_piece engine (length piece)) }

-- it goes on where the last one ended
abbrev pub piece_offset : EngineRecord → ℕ
piece_offset engine = wrap_offset engine.setup.ring (write_offset engine + engine.staged.received)

-- the ring after it: the piece copied in, other bytes as they were
unfoldable pub piece_ring : EngineRecord → (ring : List ℕ) → (client : ℕ) → (piece : List ℕ) → List ℕ
piece_ring engine ring client piece = unless_refused (piece_number engine ring client piece) ring (copied_in ring (piece_offset engine) piece)

-- "it can be cancelled, which frees what it held"; cancel answers nothing
unfoldable pub cancel_result : EngineRecord → (client : ℕ) → Reply
cancel_result engine client =
    let number : ℕ = first_refusal (cancel_table engine client) in
    record { answer = answer_unless_refused number Done; engine = unless_refused number engine (with_staged engine no_staged) }

-- ---- close (02, 11)

-- the record without a client: "the id and window are free"
unfoldable pub without_client : EngineRecord → (client : ℕ) → EngineRecord
without_client engine client = record {
  setup = engine.setup;
  clients = slice_set engine.clients client no_client;
  slots = engine.slots;
  read_offset = engine.read_offset;
  next_ticket = engine.next_ticket;
  staged = engine.staged;
}

-- close answers nothing. `memory`: the length of the memory that is lent; what becomes of it is the engine's `close_memory`
unfoldable pub close_result : EngineRecord → (memory client : ℕ) → Reply
close_result engine memory client =
    let number : ℕ = first_refusal (close_table engine memory client) in
    record { answer = answer_unless_refused number Done; engine = unless_refused number engine (without_client engine client) }

-- ---- pending

-- "Pending is the desk's ready batches."
unfoldable pub pending_answer : EngineRecord → (client : ℕ) → Result Answer Refusal
pending_answer engine client = answer_unless_refused (first_refusal (pending_table engine client)) (Ready (count_of client (ready_batches engine.slots)))
