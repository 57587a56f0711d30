-- Demand 2: a batch is read, judged and drawn exactly as the papers say. How it is read, judged and drawn is defined in crates batch (`decode_batch`,
-- `verdict_of`) and raster (`draw_batch`); this says that run answers and draws by them on any record, ring and memory, and what holds of them for any
-- batch. proofs/Demand2.antt proves it.
use Rattle.std.specs.Prelude.{◌≡◌, List, ℕ, ◌+◌, ◌*◌, ◌<◌, ◌≤◌, length, take, drop, Ok}
use Rattle.register.specs.declared.bank.Bank.{Bank}
use Rattle.task_check.specs.declared.fault.Fault.{Fault}
use Rattle.task_check.specs.declared.task.Bounds.{Bounds}
use Rattle.batch.specs.Batch.{with_fault, without_fault, faulty, between_tasks, stop_with, decode_from, decode_batch, verdict_of, tasks_drawn}
use Rattle.batch.specs.Marks.{task_end_count}
use Rattle.encoder.specs.Forms.{Form, form_size}
use Rattle.encoder.specs.Encoder.{answer_of, task_bytes, buffer_after}
use Rattle.encoder.specs.ReadsBack.{EncodeDecodeRoundTrip}
use Rattle.raster.specs.Task.{draw_tasks}
use Rattle.raster.specs.Batch.{draw_batch}
use Rattle.raster.specs.WriteFrame.{WriteFrame}
use Rattle.queue.specs.Refusals.{first_refusal}
use Rattle.engine.specs.Run.{oldest, bounds_of_client, oldest_words, reset_of, oldest_verdict, without_oldest}
use Rattle.model.specs.Calls.{run, completed}
use Rattle.model.specs.BatchSemantics.{Confined}
use Rattle.claims.specs.BatchSemantics.{completion_status_of, semantics_from}
use Rattle.claims.specs.Engine.{State, mk_state, CallResult, perform_call}
use Rattle.claims.specs.Demand1.{refusal_table_of}

-- of a faulty batch with this fault at this offset: the words before the faulty task are by themselves a faultless batch, of so many tasks, and it draws
-- the same; and the faulty task is the one that begins with the next word
pub record Standing (bounds : Bounds) (bank : Bank) (words memory : List ℕ) (tasks : ℕ) (fault : Fault) (offset : ℕ) : Type 0 where
  -- how many words stand before the faulty task, so that byte 4 * before is its first
  pub before : ℕ
  pub within : 4 * before ≤ offset
  pub faultless : verdict_of (decode_batch bounds bank (take before words)) ≡ without_fault tasks
  pub same : draw_batch bounds bank words memory ≡ draw_batch bounds bank (take before words) memory
  -- read on from there, with the registers as those words left them: no task is finished before the fault
  pub begins : decode_from bounds (decode_batch bounds bank (take before words)).bank before between_tasks (drop before words)
      ≡ stop_with (decode_batch bounds bank words).bank (faulty fault offset)

-- what holds of any batch of these words, read from any bank on, within any bounds, drawn in any memory
pub record OfBatch (bounds : Bounds) (bank : Bank) (words memory : List ℕ) : Type 0 where
  -- all its tasks are drawn, each on what the tasks before it left; of a faulty batch those before its fault
  pub drawn : draw_batch bounds bank words memory ≡ draw_tasks (tasks_drawn (decode_batch bounds bank words)) memory
  -- "tasks before the faulty one stand, and the status word carries their number" (02, 5)
  pub stands : (tasks : ℕ) (fault : Fault) (offset : ℕ) → verdict_of (decode_batch bounds bank words) ≡ with_fault tasks fault offset → Standing bounds bank words memory tasks fault offset
  -- "no byte outside a task's output rows changes": what is written, with what, and what is not
  pub writes : WriteFrame bounds bank words memory
  -- the task number "is the task-end marks in the batch"
  pub tasks : (number : ℕ) → verdict_of (decode_batch bounds bank words) ≡ without_fault number → number ≡ task_end_count words
  -- a fault's place, in bytes, lies in the batch
  pub place : (tasks : ℕ) (fault : Fault) (offset : ℕ) → verdict_of (decode_batch bounds bank words) ≡ with_fault tasks fault offset → offset < 4 * length words

-- what run answers and leaves: the oldest batch, read from the record's reset values on and within its client's bounds, is judged and drawn
abbrev pub run_performed : State → CallResult
run_performed s =
    let batch = oldest s.engine in
    record {
      answer = completed batch.client batch.ticket (completion_status_of (oldest_verdict s.engine s.ring));
      after =
          mk_state (without_oldest s.engine) s.ring
          (draw_batch (bounds_of_client s.engine batch.client) (reset_of s.engine) (oldest_words s.engine s.ring) s.memory);
    }

pub record OfRun (s : State) : Type 0 where
  -- a run that is not refused: its verdict and its drawing
  pub executes : first_refusal (refusal_table_of run s) ≡ 0 → perform_call run s ≡ run_performed s
  -- a fault's place lies in the batch as it was submitted
  pub place : (tasks : ℕ) (fault : Fault) (offset : ℕ) → oldest_verdict s.engine s.ring ≡ with_fault tasks fault offset → offset < (oldest s.engine).length

-- "fills the first 80 bytes, no others", in the second form 100 (02, request 3); of a refusal Demand1 says that it changes none
pub record Filled (form : Form) (buffer : List ℕ) : Type 0 where
  pub size : length (buffer_after form buffer) ≡ length buffer
  pub front : answer_of form (length buffer) ≡ Ok tt → take (form_size form) (buffer_after form buffer) ≡ task_bytes form
  pub others : answer_of form (length buffer) ≡ Ok tt → drop (form_size form) (buffer_after form buffer) ≡ drop (form_size form) buffer

pub record Demand2 : Type 0 where
  pub batch : (bounds : Bounds) (bank : Bank) (words memory : List ℕ) → OfBatch bounds bank words memory
  -- a batch is drawn out of its client's window and common alone, and changes the window alone
  pub confined : (bank : Bank) → Confined (semantics_from bank)
  pub runs : (s : State) → OfRun s
  pub filled : (form : Form) (buffer : List ℕ) → Filled form buffer
  -- "what the task writer writes reads back as the same task"
  pub reads_back : (bounds : Bounds) (bank : Bank) → EncodeDecodeRoundTrip bounds bank
