-- What a batch says (01, "Groups and registers" and "Faults of a taken batch"; 02, 5): its tasks in order, how it ended, and what the
-- registers hold there. The tasks before a fault are among them, and stand.
use Rattle.std.specs.Prelude.{ℕ, zero, suc, ◌+◌, ◌*◌, Bool, true, false, cond, ◌||◌, List, [], ◌∷◌, length, eqb, ltb, Some, None, Result, Ok, Err, ⊤}
use Rattle.std.specs.Option.{option_map_or}
use Rattle.word.specs.Field.{field}
use Rattle.register.specs.Bank.{write_register}
use Rattle.register.specs.Task.{task_of}
use Rattle.register.specs.declared.bank.Bank.{Bank}
use Rattle.register.specs.declared.bank.WriteFault.{WriteFault}
use Rattle.register.specs.declared.task.Task.{Task}
use Rattle.task_check.specs.declared.fault.Fault.{Fault}
use Rattle.task_check.specs.declared.fault.Fault.TheVariants.{ReservedBits, GroupLength, OpenTask}
use Rattle.task_check.specs.declared.task.Bounds.{Bounds}
use Rattle.batch.specs.declared.verdict.Validation.{Validation}
use Rattle.batch.specs.declared.verdict.Verdict.{Verdict}
use Rattle.task_check.specs.Faults.{write_fault, fault_number, fault_status}
use Rattle.task_check.specs.Rules.{check_task}

-- a fault has its offset in bytes (the paper's place)
pub data BatchEnd : Type 0 where
  finished : BatchEnd
  faulty : (fault : Fault) (offset : ℕ) → BatchEnd

-- bank: register values where decoding stopped; a rejected word is not stored
pub record DecodedBatch : Type 0 where
  pub tasks : List Task
  pub ending : BatchEnd
  pub bank : Bank

-- no task more
abbrev pub stop_with : Bank → BatchEnd → DecodedBatch
stop_with bank ending = record { tasks = []; ending = ending; bank = bank }

-- this task, and then the rest
abbrev pub cons_task : Task → DecodedBatch → DecodedBatch
cons_task task rest = record { tasks = task ∷ rest.tasks; ending = rest.ending; bank = rest.bank }

-- where the walk stands: before a task's first group; or in the group whose header is word `head`, with this many of its words
-- to come, the next of them for the register at `offset`, and whether the group ends the task
pub data DecoderState : Type 0 where
  between_tasks : DecoderState
  in_group : (left offset : ℕ) (ends : Bool) (head : ℕ) → DecoderState

-- header bit 1, 16 or 17 set
abbrev pub reserved_bits : ℕ → Bool
reserved_bits header = eqb (field 1 1 header) 1 || eqb (field 16 16 header) 1 || eqb (field 17 17 header) 1

-- a group of no word, or of more words than follow its header
abbrev pub bad_group_length : ℕ → ℕ → Bool
bad_group_length count follow = eqb count 0 || ltb follow count

-- the group of the header at word k: bits 31:16 are the first register's offset, bits 15:2 with two zero bits the length in bytes
-- of the group's words, so 15:2 their number, and bit 0 says that the group ends the task
abbrev pub group_of : ℕ → ℕ → DecoderState
group_of k header = in_group (field 15 2 header) (field 31 16 header) (eqb (field 0 0 header) 1) k

-- word k is a header, and `follow` words follow it: 20, 21
abbrev pub decode_header : Bank → ℕ → ℕ → ℕ → (DecoderState → DecodedBatch) → DecodedBatch
decode_header bank k header follow go =
    cond (reserved_bits header) (stop_with bank (faulty ReservedBits (4 * k)))
    (cond (bad_group_length (field 15 2 header) follow) (stop_with bank (faulty GroupLength (4 * k)))
    (go (group_of k header)))

-- word k is written: 23, 24
abbrev pub after_write : Bank → ℕ → Result Bank WriteFault → (Bank → DecodedBatch) → DecodedBatch
after_write bank k (Ok next) go = go next
after_write bank k (Err f) go = stop_with bank (faulty (write_fault f) (4 * k))

-- the group at word `head` ended the task: 25 to 28
abbrev pub after_task_check : Result ⊤ Fault → Bank → ℕ → DecodedBatch → DecodedBatch
after_task_check (Ok _) bank head rest = cons_task (task_of bank) rest
after_task_check (Err f) bank head rest = stop_with bank (faulty f (4 * head))

-- the words from word k on. The bank is kept from group to group and from task to task
unfoldable pub decode_from : Bounds → Bank → ℕ → DecoderState → List ℕ → DecodedBatch
-- before a task: the batch is at its end, or a header follows
decode_from bounds bank k between_tasks [] = stop_with bank finished
decode_from bounds bank k between_tasks (h ∷ ws) = decode_header bank k h (length ws) (λ position. decode_from bounds bank (k + 1) position ws)
-- in a group: its next word. That none follows is ruled out by 21
decode_from bounds bank k (in_group (suc n) offset ends head) [] = stop_with bank (faulty GroupLength (4 * head))
decode_from bounds bank k (in_group (suc n) offset ends head) (w ∷ ws) =
    after_write bank k (write_register bank offset w) (λ next. decode_from bounds next (k + 1) (in_group n (offset + 4) ends head) ws)
-- after a group that does not end the task: 22 if it was the last, else the next header
decode_from bounds bank k (in_group zero offset false head) [] = stop_with bank (faulty OpenTask (4 * head))
decode_from bounds bank k (in_group zero offset false head) (h ∷ ws) =
    decode_header bank k h (length ws) (λ position. decode_from bounds bank (k + 1) position ws)
-- after a group that ends the task: it is judged, and then the batch is at its end, or a header follows
decode_from bounds bank k (in_group zero offset true head) [] =
    after_task_check (check_task bounds (task_of bank)) bank head (stop_with bank finished)
decode_from bounds bank k (in_group zero offset true head) (h ∷ ws) =
    after_task_check (check_task bounds (task_of bank)) bank head
    (decode_header bank k h (length ws) (λ position. decode_from bounds bank (k + 1) position ws))

-- a batch of these words, read from this bank on
abbrev pub decode_batch : Bounds → Bank → List ℕ → DecodedBatch
decode_batch bounds bank words = decode_from bounds bank 0 between_tasks words

-- ---- what is answered of a batch

-- so many tasks, and no fault
abbrev pub without_fault : ℕ → Verdict
without_fault n = record { tasks = n; fault = None }

-- so many tasks before this fault
abbrev pub with_fault : ℕ → Fault → ℕ → Verdict
with_fault n fault offset = record { tasks = n; fault = Some (record { fault = fault; offset = offset }) }

-- after n tasks and this ending: a faulty batch is answered with the number of the tasks before its fault
abbrev pub verdict_after : ℕ → BatchEnd → Verdict
verdict_after n finished = without_fault n
verdict_after n (faulty fault offset) = with_fault n fault offset

abbrev pub verdict_of : DecodedBatch → Verdict
verdict_of reading = verdict_after (length reading.tasks) reading.ending

-- Internal: with the bank at its end
abbrev pub validation_of : DecodedBatch → Validation
validation_of reading = record { verdict = verdict_of reading; bank = reading.bank }

-- the status word: tasks x 65,536 + 1; of a faulty batch "the status word carries their number in the upper half, finish bit clear" (02, 5)
abbrev pub status_word_of : Verdict → ℕ
status_word_of verdict = verdict.tasks * 65536 + option_map_or (λ found. fault_status found.fault) verdict.fault 1

-- fault and place, 0 without a fault
abbrev pub fault_number_of : Verdict → ℕ
fault_number_of verdict = option_map_or (λ found. fault_number found.fault) verdict.fault 0

abbrev pub fault_offset_of : Verdict → ℕ
fault_offset_of verdict = option_map_or (λ found. found.offset) verdict.fault 0

-- the tasks that are drawn, in order: "tasks before the faulty one stand" (02, 5)
abbrev pub tasks_drawn : DecodedBatch → List Task
tasks_drawn reading = reading.tasks
