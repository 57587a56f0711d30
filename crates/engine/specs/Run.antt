-- Run (01, "Engine, desks, queue": "Run takes the oldest batch", judges it and draws it, "frees its slot and ring bytes, and answers desk,
-- ticket, status, fault and place"), for every record, ring and memory. Of a faulty batch "tasks before the faulty one stand" (02, 5). A refusal
-- leaves record and memory as they were. The ring is lent to be read: "Run changes no ring byte."
use Rattle.std.specs.Prelude.{◌≡◌, List, [], ◌∷◌, Bool, ◌||◌, not, ℕ, ◌+◌, ◌-◌, length, get_or, set, eqb}
use Rattle.ring.specs.Segment.{batch_words, wrap_offset}
use Rattle.register.specs.declared.bank.Bank.{Bank}
use Rattle.register.specs.Bank.{reset_bank}
use Rattle.task_check.specs.declared.task.Bounds.{Bounds}
use Rattle.batch.specs.declared.verdict.Verdict.{Verdict}
use Rattle.batch.specs.Batch.{decode_batch, verdict_of}
use Rattle.raster.specs.Batch.{draw_batch}
use Rattle.renderer.specs.declared.Renderer.{Renderer}
use Rattle.engine_record.specs.declared.Client.{Client}
use Rattle.engine_record.specs.declared.Batch.{Batch}
use Rattle.engine_record.specs.declared.EngineRecord.{EngineRecord}
use Rattle.engine_record.specs.Slots.{free}
use Rattle.engine_record.specs.Tickets.{ticket_before, slot_of_ticket, batch_of_ticket}
use Rattle.engine_record.specs.Clients.{no_client, client_at, window_range}
use Rattle.engine_record.specs.Queue.{ready_slots}
use Rattle.engine_record.specs.Rules.{valid}
use Rattle.queue.specs.Answers.{answer_unless_refused}
use Rattle.queue.specs.Refusals.{RefusalRow, ◌when◌, first_refusal}
use Rattle.queue.specs.Calls.{unless_refused}
use Rattle.engine.specs.declared.RunResult.{RunResult}

-- when run is refused; ring and memory: the lengths of those that are lent
abbrev pub run_table : EngineRecord → (ring memory : ℕ) → List RefusalRow
run_table engine ring memory =
    11 when not (valid engine)
    ∷ 10 when (not (eqb ring engine.setup.ring) || not (eqb memory engine.setup.memory))
    ∷ 9 when eqb (ready_slots engine) 0
    ∷ []

-- what run is refused with, 0 if it takes a batch
abbrev pub run_number : EngineRecord → (ring memory : List ℕ) → ℕ
run_number engine ring memory = first_refusal (run_table engine (length ring) (length memory))

-- ---- the batch that is taken

-- of n ready batches the oldest has the ticket n before the next to be given
abbrev pub oldest_ticket : EngineRecord → ℕ
oldest_ticket engine = ticket_before engine.next_ticket (ready_slots engine)

abbrev pub oldest : EngineRecord → Batch
oldest engine = batch_of_ticket (oldest_ticket engine) engine.slots

-- its client's window, and common
abbrev pub bounds_of_client : EngineRecord → (client : ℕ) → Bounds
bounds_of_client engine client = record { window = window_range (client_at engine client).window; common_length = engine.setup.common }

-- its words, in order
abbrev pub oldest_words : EngineRecord → (ring : List ℕ) → List ℕ
oldest_words engine ring = batch_words ring (oldest engine).offset (oldest engine).length

-- "Registers are at reset values at the start of every batch", by the record's reset rule (02, request 2)
abbrev pub reset_of : EngineRecord → Bank
reset_of engine = reset_bank engine.setup.reset

abbrev pub oldest_verdict : EngineRecord → (ring : List ℕ) → Verdict
oldest_verdict engine ring = verdict_of (decode_batch (bounds_of_client engine (oldest engine).client) (reset_of engine) (oldest_words engine ring))

-- ---- record, answer and memory after it

-- the clients with one batch fewer pending for one of them
abbrev pub pending_lowered : List Client → ℕ → List Client
pending_lowered clients client = set clients client (record { window = (get_or clients client no_client).window; pending = (get_or clients client no_client).pending - 1; opened = (get_or clients client no_client).opened })

-- its slot is free, and "each run moves" the read offset "past its batch"
unfoldable pub without_oldest : EngineRecord → EngineRecord
without_oldest engine = record {
  setup = engine.setup;
  clients = pending_lowered engine.clients (oldest engine).client;
  slots = set engine.slots (slot_of_ticket (oldest_ticket engine) engine.slots) free;
  read_offset = wrap_offset engine.setup.ring (engine.read_offset + (oldest engine).length);
  next_ticket = engine.next_ticket;
  staged = engine.staged;
}

unfoldable pub run_result : EngineRecord → (ring memory : List ℕ) → RunResult
run_result engine ring memory =
    let number : ℕ = run_number engine ring memory in
    record {
      outcome = answer_unless_refused number (record { client = (oldest engine).client; ticket = (oldest engine).ticket; verdict = oldest_verdict engine ring });
      engine = unless_refused number engine (without_oldest engine);
    }

-- memory after it: the batch drawn with its client's window; of a faulty one the tasks before the fault
unfoldable pub run_memory : EngineRecord → (ring memory : List ℕ) → List ℕ
run_memory engine ring memory =
    unless_refused (run_number engine ring memory) memory (draw_batch (bounds_of_client engine (oldest engine).client) (reset_of engine) (oldest_words engine ring) memory)

-- what a run gives and the memory that it leaves, by the slow engine or by the fast one (02, request 13): the same is promised of both
abbrev pub RunBy : Renderer → EngineRecord → (ring memory : List ℕ) → RunResult → (left : List ℕ) → Type 0
RunBy renderer engine ring memory result left = (result ≡ run_result engine ring memory) × (left ≡ run_memory engine ring memory)
