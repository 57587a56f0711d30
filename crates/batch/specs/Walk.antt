-- Internal: a batch read a task at a time: one step of the reading (`step_at`, the contract of `batch::decode::next_task`), and what it says of the whole
-- (`StepSimulates`, which holds of every step: proofs/Simulates). A caller that takes step after step, from bank to bank and position to position, meets
-- the tasks of `decode_batch` in order, and then its ending.
use Rattle.std.specs.Prelude.{ℕ, zero, suc, ◌+◌, ◌*◌, ◌<◌, ◌≤◌, ◌≡◌, true, false, cond, List, [], ◌∷◌, length, drop, Option, Some, None, Result, Ok, Err, ⊤}
use Rattle.word.specs.Field.{field}
use Rattle.ring.specs.declared.Reader.{Reader}
use Rattle.ring.specs.Segment.{batch_words}
use Rattle.register.specs.Bank.{write_register}
use Rattle.register.specs.Task.{task_of}
use Rattle.register.specs.declared.bank.Bank.{Bank}
use Rattle.register.specs.declared.bank.WriteFault.{WriteFault}
use Rattle.register.specs.declared.task.Task.{Task}
use Rattle.task_check.specs.declared.fault.Fault.{Fault}
use Rattle.task_check.specs.declared.fault.Fault.TheVariants.{ReservedBits, GroupLength, OpenTask}
use Rattle.task_check.specs.declared.task.Bounds.{Bounds}
use Rattle.batch.specs.declared.verdict.FaultAt.{FaultAt}
use Rattle.batch.specs.declared.walk.TaskRead.{TaskRead}
use Rattle.batch.specs.declared.walk.Stop.{Stop}
use Rattle.batch.specs.declared.walk.BatchTasks.{BatchTasks}
use Rattle.task_check.specs.Faults.{write_fault}
use Rattle.task_check.specs.Rules.{check_task}
use Rattle.batch.specs.Batch.{DecodedBatch, BatchEnd, finished, faulty, stop_with, cons_task, DecoderState, between_tasks, in_group, reserved_bits, bad_group_length, group_of, decode_from}

-- the words of a reader's batch
abbrev pub words_in : Reader → List ℕ
words_in batch = batch_words batch.ring.now batch.offset batch.size

-- ---- one step: the reading (specs/Batch) up to the end of a task, the batch's end or a fault

-- a task, a fault, or the batch's end
abbrev pub WalkStep : Type 0
WalkStep = Result (Option TaskRead) Stop

-- a task, with the bank at its end and the word after it
abbrev pub read_task : Task → Bank → ℕ → WalkStep
read_task task bank next = Ok (Some (record { task = task; bank = bank; next = next }))

-- a fault, its offset and the bank there
abbrev pub stopped : Fault → ℕ → Bank → Stop
stopped fault offset bank = record { fault = record { fault = fault; offset = offset }; bank = bank }

-- the step at the end of a task that was judged: the word after it is word `next`, a fault of it has this offset
abbrev pub step_after_check : Result ⊤ Fault → Bank → ℕ → ℕ → WalkStep
step_after_check (Ok _) bank next offset = read_task (task_of bank) bank next
step_after_check (Err f) bank next offset = Err (stopped f offset bank)

-- word k is a header, and `follow` words follow it
abbrev pub step_header : Bank → ℕ → ℕ → ℕ → (DecoderState → WalkStep) → WalkStep
step_header bank k header follow go =
    cond (reserved_bits header) (Err (stopped ReservedBits (4 * k) bank))
    (cond (bad_group_length (field 15 2 header) follow) (Err (stopped GroupLength (4 * k) bank))
    (go (group_of k header)))

-- word k is written
abbrev pub step_write : Bank → ℕ → Result Bank WriteFault → (Bank → WalkStep) → WalkStep
step_write bank k (Ok next) go = go next
step_write bank k (Err f) go = Err (stopped (write_fault f) (4 * k) bank)

-- the words from word k on
unfoldable pub step_from : Bounds → Bank → ℕ → DecoderState → List ℕ → WalkStep
step_from bounds bank k between_tasks [] = Ok None
step_from bounds bank k between_tasks (h ∷ ws) = step_header bank k h (length ws) (λ position. step_from bounds bank (k + 1) position ws)
step_from bounds bank k (in_group (suc n) offset ends head) [] = Err (stopped GroupLength (4 * head) bank)
step_from bounds bank k (in_group (suc n) offset ends head) (w ∷ ws) =
    step_write bank k (write_register bank offset w) (λ next. step_from bounds next (k + 1) (in_group n (offset + 4) ends head) ws)
step_from bounds bank k (in_group zero offset false head) [] = Err (stopped OpenTask (4 * head) bank)
step_from bounds bank k (in_group zero offset false head) (h ∷ ws) = step_header bank k h (length ws) (λ position. step_from bounds bank (k + 1) position ws)
step_from bounds bank k (in_group zero offset true head) [] = step_after_check (check_task bounds (task_of bank)) bank k (4 * head)
step_from bounds bank k (in_group zero offset true head) (h ∷ ws) = step_after_check (check_task bounds (task_of bank)) bank k (4 * head)

-- of a batch of these words, from this bank and word k on, k where a task may begin
abbrev pub step_at : Bounds → List ℕ → Bank → ℕ → WalkStep
step_at bounds words bank k = step_from bounds bank k between_tasks (drop k words)

-- ---- what it says of the whole

-- the reading of a batch of these words from word k on, k where a task may begin
abbrev pub decode_rest : Bounds → List ℕ → Bank → ℕ → DecodedBatch
decode_rest bounds words bank k = decode_from bounds bank k between_tasks (drop k words)

-- what a step from this bank on says of the reading
abbrev pub decode_after_step : Bounds → List ℕ → Bank → WalkStep → DecodedBatch
decode_after_step bounds words bank (Ok (Some read)) = cons_task read.task (decode_rest bounds words read.bank read.next)
decode_after_step bounds words bank (Ok None) = stop_with bank finished
decode_after_step bounds words bank (Err stop) = stop_with stop.bank (faulty stop.fault.fault stop.fault.offset)

-- a task ends past where it began, and inside the batch
abbrev pub StepAdvances : ℕ → List ℕ → WalkStep → Type 0
StepAdvances k words (Ok (Some read)) = (k < read.next) × (read.next ≤ length words)
StepAdvances k words (Ok None) = Unit
StepAdvances k words (Err stop) = Unit

pub record StepSimulates (bounds : Bounds) (words : List ℕ) (bank : Bank) (k : ℕ) (step : WalkStep) : Type 0 where
  pub same_decoding : decode_rest bounds words bank k ≡ decode_after_step bounds words bank step
  pub onward : StepAdvances k words step

-- ---- the tasks one after another

-- how a batch ended in which this fault was met, or none
abbrev pub ending_of : Option FaultAt → BatchEnd
ending_of None = finished
ending_of (Some found) = faulty found.fault found.offset

-- no task more: the reading ends where it stands
abbrev pub reading_so_far : BatchTasks → DecodedBatch
reading_so_far tasks = stop_with tasks.bank (ending_of tasks.fault)

-- what is left of a reading that stands here: nothing after a fault
abbrev pub left_of : Option FaultAt → Bounds → List ℕ → Bank → ℕ → DecodedBatch
left_of None bounds words bank k = decode_rest bounds words bank k
left_of (Some found) bounds words bank k = stop_with bank (faulty found.fault found.offset)

unfoldable pub reading_left : BatchTasks → DecodedBatch
reading_left tasks = left_of tasks.fault tasks.bounds (words_in tasks.batch) tasks.bank tasks.at

abbrev pub tasks_left : BatchTasks → List Task
tasks_left tasks = (reading_left tasks).tasks

-- the next task is given, and counted; or there is none, and the fault, the bank and the count are those of the ending
abbrev pub GivesTask : BatchTasks → Option Task → BatchTasks → Type 0
GivesTask old None new = (reading_left old ≡ reading_so_far new) × (reading_left new ≡ reading_so_far new) × (new.count ≡ old.count)
GivesTask old (Some task) new = (reading_left old ≡ cons_task task (reading_left new)) × (new.count ≡ old.count + 1)
