-- What the tally counts (02, request 14: "exact 64-bit counts: batches, tasks, output pixels, blended pixels, batches for each fault number, records
-- without a score. Only batches that were run count, and for tasks and pixels only what was drawn").
use Rattle.std.specs.Prelude.{List, [], ◌∷◌, Bool, cond, ◌&&◌, ℕ, ◌+◌, ◌-◌, ◌*◌, eqb}
use Rattle.word.specs.Word.{words}
use Rattle.register.specs.declared.task.Task.{Task}
use Rattle.task_check.specs.declared.fault.Fault.{Fault}
use Rattle.task_check.specs.Faults.{fault_number}
use Rattle.batch.specs.Batch.{BatchEnd, finished, faulty, DecodedBatch, decode_batch, tasks_drawn}
use Rattle.claims.specs.BatchSemantics.{bounds_of}
use Rattle.records.specs.declared.Edition.{Edition}
use Rattle.records.specs.declared.Edition.TheVariants.{First, Second}
use Rattle.records.specs.Records.{Entry, records}
use Rattle.records.specs.Editions.{score_holds, submission}
use Rattle.lines.specs.Lines.{file_reset}
use Rattle.lines.specs.Answered.{record_refusal, replay_window}

pub data Count : Type 0 where
  batches : Count
  tasks : Count
  output_pixels : Count
  blended_pixels : Count
  faulted : Fault → Count
  without_score : Count

-- ---- a batch that was run

-- itself
abbrev pub batch_count : Count → ℕ
batch_count batches = 1
batch_count tasks = 0
batch_count output_pixels = 0
batch_count blended_pixels = 0
batch_count (faulted fault) = 0
batch_count without_score = 0

-- a task that was drawn: the pixels are width x height of its output, and they are blended if blending is on
abbrev pub pixels_of : Task → ℕ
pixels_of task = task.output.width * task.output.height

abbrev pub task_count : Count → Task → ℕ
task_count batches task = 0
task_count tasks task = 1
task_count output_pixels task = pixels_of task
task_count blended_pixels task = cond task.blending.on (pixels_of task) 0
task_count (faulted fault) task = 0
task_count without_score task = 0

-- its fault, if it has one
abbrev pub end_count : Count → BatchEnd → ℕ
end_count batches ending = 0
end_count tasks ending = 0
end_count output_pixels ending = 0
end_count blended_pixels ending = 0
end_count (faulted fault) finished = 0
end_count (faulted fault) (faulty own offset) = cond (eqb (fault_number fault) (fault_number own)) 1 0
end_count without_score ending = 0

-- what some things add to a count, each its own number
unfoldable pub count_over : {A : Type 0} → (A → ℕ) → List A → ℕ
count_over f [] = 0
count_over f (x ∷ xs) = f x + count_over f xs

-- "for tasks and pixels only what was drawn": the tasks before a fault are (02, request 5)
abbrev pub ran_count : Count → DecodedBatch → ℕ
ran_count count batch = batch_count count + (count_over (task_count count) (tasks_drawn batch) + end_count count batch.ending)

-- ---- a record

-- it is submitted, and submit doesn't refuse it: then it is run
abbrev pub is_run : Edition → Entry → Bool
is_run edition entry = score_holds edition entry && eqb (record_refusal (submission edition entry)) 0

-- what its batch says in its own client's window
abbrev pub batch_of : Edition → Entry → DecodedBatch
batch_of edition entry = decode_batch (bounds_of (replay_window entry.client) 16384) (file_reset edition) (words entry.batch)

-- "a refused submit or a bad score adds nothing but, in edition 1, a record without a score"
abbrev pub unscored_count : Count → Edition → ℕ
unscored_count batches edition = 0
unscored_count tasks edition = 0
unscored_count output_pixels edition = 0
unscored_count blended_pixels edition = 0
unscored_count (faulted fault) edition = 0
unscored_count without_score First = 1
unscored_count without_score Second = 0

abbrev pub record_count : Count → Edition → Entry → ℕ
record_count count edition entry = unscored_count count edition + cond (is_run edition entry) (ran_count count (batch_of edition (submission edition entry))) 0

-- ---- a file

-- by its version byte; a file of another version, and an empty one, has no record in either edition
abbrev pub edition_of : List ℕ → Edition
edition_of [] = First
edition_of (version ∷ bytes) = cond (eqb version 2) Second First

-- "A damaged file counts up to its damage": its records are those before it (crate records)
unfoldable pub file_count : Count → List ℕ → ℕ
file_count count bytes = count_over (record_count count (edition_of bytes)) (records (edition_of bytes) bytes).entries

-- ---- the totals: fourteen numbers, in this order

abbrev pub position : Count → ℕ
position batches = 0
position tasks = 1
position output_pixels = 2
position blended_pixels = 3
-- 20 to 28 at 4 to 12
position (faulted fault) = fault_number fault - 16
position without_score = 13
