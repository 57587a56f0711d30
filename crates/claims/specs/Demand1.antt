-- Demand 1, of set up, of any call on any engine record, ring and memory, not only on those that calls lead to, and of the encoder. The tool checks
-- termination and safety of every function; this file states the rest of demand 1. proofs/Demand1.antt proves it.
use Rattle.std.specs.Prelude.{◌≡◌, not, List, [], ◌∷◌, ℕ, ◌+◌, ◌*◌, length, ltb}
use Rattle.engine_record.specs.declared.Setup.{Setup}
use Rattle.task_check.specs.declared.fault.Fault.{Fault}
use Rattle.task_check.specs.Faults.{fault_number, fault_status}
use Rattle.register.specs.declared.task.Task.{Task}
use Rattle.batch.specs.Batch.{with_fault, decode_batch, tasks_drawn}
use Rattle.raster.specs.Task.{draw_tasks}
use Rattle.encoder.specs.Forms.{Form, form_allowed, form_size}
use Rattle.encoder.specs.Encoder.{answer_of, buffer_after, encode_refusal_of as encoderNumber}
use Rattle.queue.specs.Answers.{refusal_number_of}
use Rattle.queue.specs.Refusals.{RefusalRow, ◌when◌, first_refusal, set_up_table, open_table, submit_table, piece_table, cancel_table, close_table, pending_table}
use Rattle.queue.specs.Calls.{set_up_result}
use Rattle.engine.specs.Run.{run_table, oldest, bounds_of_client, oldest_words, reset_of, oldest_verdict, without_oldest}
use Rattle.model.specs.Calls.{Call, opens, submit, run, pending, begin, piece, cancel, close, completed, refused}
use Rattle.model.specs.Machine.{RefusalNoOp}
use Rattle.claims.specs.Engine.{State, mk_state, perform_call}

-- the rows of the paper's table that a call can be refused by, in its order
abbrev pub refusal_table_of : Call → State → List RefusalRow
refusal_table_of (opens w) s = open_table s.engine (record { start = w.start; length = w.length })
refusal_table_of (submit client bytes) s = submit_table s.engine (length s.ring) client (length bytes)
refusal_table_of run s = run_table s.engine (length s.ring) (length s.memory)
refusal_table_of (pending client) s = pending_table s.engine client
refusal_table_of (begin client total) s = submit_table s.engine (length s.ring) client total
refusal_table_of (piece client bytes) s = piece_table s.engine (length s.ring) client (length bytes)
refusal_table_of (cancel client) s = cancel_table s.engine client
refusal_table_of (close client) s = close_table s.engine (length s.memory) client

-- and the encoder, in either form (02, request 3: "12 under 100 bytes for the second form"); size: the length of the buffer that is lent
abbrev pub encoder_table : Form → (size : ℕ) → List RefusalRow
encoder_table form size =
    24 when not (form_allowed form)
    ∷ 12 when ltb size (form_size form)
    ∷ []

-- the tasks of the oldest batch that are drawn: of a faulty one those before its fault
abbrev pub standing : State → List Task
standing s = tasks_drawn (decode_batch (bounds_of_client s.engine (oldest s.engine).client) (reset_of s.engine) (oldest_words s.engine s.ring))

-- the eight calls on a record
pub record OfCalls (s : State) : Type 0 where
  -- "A refusal comes exactly under its listed condition, in the listed order": it is the first row whose condition holds; without one there is none
  pub refused_if : (call : Call) (n : ℕ) → ¬ (n ≡ 0) → first_refusal (refusal_table_of call s) ≡ n → (perform_call call s).answer ≡ refused n
  pub refused_only_if : (call : Call) (n : ℕ) → (perform_call call s).answer ≡ refused n → (first_refusal (refusal_table_of call s) ≡ n) × ¬ (n ≡ 0)
  -- "and changes nothing": a refused call leaves record, ring and memory as they were, whatever they are
  pub refused_no_change : (call : Call) → RefusalNoOp (perform_call call s).answer s (perform_call call s).after
  -- a faulty batch "leaves with fault number, place, status", and "tasks before the faulty one stand, and the status word carries their number in the upper
  -- half, finish bit clear" (02, 5): a run that is not refused, and finds a fault. Memory after is memory with these tasks drawn, and they are that many
  pub faulty : (tasks : ℕ) (fault : Fault) (place : ℕ) → first_refusal (refusal_table_of run s) ≡ 0 → oldest_verdict s.engine s.ring ≡ with_fault tasks fault place →
      (perform_call run s ≡ record {
        answer =
            completed (oldest s.engine).client (oldest s.engine).ticket
            (record { status = tasks * 65536 + fault_status fault; fault = fault_number fault; offset = place });
        after = mk_state (without_oldest s.engine) s.ring (draw_tasks (standing s) s.memory);
      }) × (length (standing s) ≡ tasks)

-- the encoder; "and changes nothing" is said of the buffer that is lent
pub record OfEncoder (form : Form) (buffer : List ℕ) : Type 0 where
  pub by_table : encoderNumber (answer_of form (length buffer)) ≡ first_refusal (encoder_table form (length buffer))
  pub refused_no_change : ¬ (encoderNumber (answer_of form (length buffer)) ≡ 0) → buffer_after form buffer ≡ buffer

pub record Demand1 : Type 0 where
  -- set up's refusal, 0 for none, is by its table; it is lent nothing
  pub set_up : (setup : Setup) → refusal_number_of (set_up_result setup.ring setup.memory setup.common setup.reset).answer ≡ first_refusal (set_up_table setup)
  pub calls : (s : State) → OfCalls s
  pub encoder : (form : Form) (buffer : List ℕ) → OfEncoder form buffer
