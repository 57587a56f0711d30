-- "Prove the reason true: the named task did write the byte, no later one did, and a byte not drawn is as at the start" (02, request 10).
-- proofs/Reason.antt proves `ProvenanceHolds`.
use Rattle.std.specs.Prelude.{◌≡◌, List, ◌∷◌, ◌++◌, ℕ, ◌<◌, ◌/◌, length, get_or, replicate, Option, Some, None, Err}
use Rattle.records.specs.declared.Edition.TheVariants.{First}
use Rattle.word.specs.Word.{words}
use Rattle.surface.specs.Surface.{InRow}
use Rattle.register.specs.Bank.{write_register}
use Rattle.register.specs.declared.bank.WriteFault.TheVariants.{Forbidden as NotTaken}
use Rattle.register.specs.declared.task.Task.{Task}
use Rattle.task_check.specs.Faults.{fault_number}
use Rattle.batch.specs.Batch.{tasks_drawn}
use Rattle.raster.specs.Task.{draw_task, draw_tasks}
use Rattle.raster.specs.WriteFrame.{OutsideAllRows, output_byte}
use Rattle.records.specs.Records.{Entry}
use Rattle.model.specs.Calls.{completed}
use Rattle.lines.specs.Lines.{replay_start, submit_and_run}
use Rattle.lines.specs.Answered.{verdict, submit_and_run_all}
use Rattle.provenance.specs.declared.Explanation.{Explanation}
use Rattle.provenance.specs.declared.Touch.{Touch}
use Rattle.provenance.specs.Drawn.{Drawn, reading_of, drawn_from, tasks_of}
use Rattle.provenance.specs.Touched.{touch_of, touched_by}
use Rattle.provenance.specs.Faulted.{register_at, held_in, faulted_by}

-- memory at the start
unfoldable pub zeros : List ℕ
zeros = replicate 65536 0

-- memory after these tasks
abbrev pub memory_drawn : List Drawn → List ℕ
memory_drawn ds = draw_tasks (tasks_of ds) zeros

-- byte i of memory after the engine submitted and ran these records
abbrev pub byte_after : List Entry → ℕ → ℕ
byte_after entries i = get_or (submit_and_run_all entries (replay_start First)).memory i 0

-- the batch of a drawn task: the engine completed it with this ticket, and this is the task's number there
pub record Given (entries : List Entry) (drawn : Drawn) : Type 0 where
  pub before : List Entry
  pub entry : Entry
  pub after : List Entry
  pub among : entries ≡ before ++ entry ∷ after
  pub completes : (submit_and_run entry (submit_and_run_all before (replay_start First))).answer ≡ completed entry.client drawn.ticket (verdict First entry)
  pub earlier : List Task
  pub later : List Task
  pub tasks : tasks_drawn (reading_of entry) ≡ earlier ++ drawn.task ∷ later
  pub number : drawn.number ≡ length earlier

-- a task of these records that drew byte i last
pub record Wrote (entries : List Entry) (i : ℕ) (answer : Touch) : Type 0 where
  pub before : List Drawn
  pub drawn : Drawn
  pub after : List Drawn
  pub among : drawn_from 0 entries ≡ before ++ drawn ∷ after
  pub named : answer ≡ touch_of drawn
  pub batch : Given entries drawn
  pub row : ℕ
  pub place : ℕ
  pub held : InRow drawn.task.output i row place
  -- it did write the byte: that of its pixel, computed from the memory before it
  pub wrote : get_or (draw_task drawn.task (memory_drawn before)) i 0 ≡ output_byte drawn.task (memory_drawn before) row place
  -- no later one did
  pub later : OutsideAllRows (tasks_of after) i
  -- so the byte at the end is that one
  pub stays : byte_after entries i ≡ output_byte drawn.task (memory_drawn before) row place

-- no task of these records drew byte i: it is as at the start
pub record Untouched (entries : List Entry) (i : ℕ) : Type 0 where
  pub outside : OutsideAllRows (tasks_of (drawn_from 0 entries)) i
  pub zero : byte_after entries i ≡ 0

-- what an answer says
abbrev pub True : List Entry → (i : ℕ) → Option Touch → Type 0
True entries i None = Untouched entries i
True entries i (Some answer) = Wrote entries i answer

-- the batch with this ticket, of which this is answered
pub record Blamed (entries : List Entry) (ticket : ℕ) (answer : Explanation) : Type 0 where
  pub before : List Entry
  pub entry : Entry
  pub after : List Entry
  pub among : entries ≡ before ++ entry ∷ after
  -- the engine's run answered this ticket, this fault and this place
  pub status : ℕ
  pub completes : (submit_and_run entry (submit_and_run_all before (replay_start First))).answer ≡ completed entry.client ticket (record { status = status; fault = fault_number answer.fault; offset = answer.place })
  pub word : answer.word ≡ get_or (words entry.batch) (answer.place / 4) 0
  -- 24: this is the register that the word is for, this is what it held, and it does not take the word
  pub refuses : (register held : ℕ) → answer.detail ≡ Some (record { offset = register; held = held })
      → (register ≡ register_at (words entry.batch) (answer.place / 4)) × (held ≡ held_in (reading_of entry).bank register) × (write_register (reading_of entry).bank register answer.word ≡ Err NotTaken)

pub record ProvenanceHolds : Type 0 where
  -- the engine draws just these tasks, record for record
  pub engine : (entries : List Entry) → (submit_and_run_all entries (replay_start First)).memory ≡ memory_drawn (drawn_from 0 entries)
  -- the reason is true
  pub reason : (entries : List Entry) (i : ℕ) → i < 65536 → True entries i (touched_by entries i)
  pub blames : (entries : List Entry) (ticket : ℕ) (answer : Explanation) → faulted_by entries ticket ≡ Some answer → Blamed entries ticket answer
