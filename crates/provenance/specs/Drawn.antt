-- The tasks that the records of a replay file draw, in order of drawing (02, request 10; 01, "Writer and replay" and "Engine, desks, queue").
-- No engine is asked: that it draws just these is a part of specs/Reason.
use Rattle.std.specs.Prelude.{List, [], ◌∷◌, ◌++◌, cond, ℕ, ◌+◌, eqb}
use Rattle.records.specs.declared.Edition.TheVariants.{First}
use Rattle.word.specs.Word.{words}
use Rattle.register.specs.declared.task.Task.{Task}
use Rattle.batch.specs.Batch.{DecodedBatch, decode_batch, tasks_drawn}
use Rattle.claims.specs.BatchSemantics.{bounds_of}
use Rattle.records.specs.Records.{Entry}
use Rattle.lines.specs.Lines.{file_reset}
use Rattle.lines.specs.Answered.{record_refusal, replay_window, ticket_of_count, count_after}

-- a task, with the ticket of its batch and its number there
pub record Drawn : Type 0 where
  pub ticket : ℕ
  pub number : ℕ
  pub task : Task

-- "the task's number in its batch (from 0)": these tasks, the first of them with this number
unfoldable pub numbered : (ticket number : ℕ) → List Task → List Drawn
numbered ticket number [] = []
numbered ticket number (t ∷ ts) = record { ticket = ticket; number = number; task = t } ∷ numbered ticket (number + 1) ts

-- what a record's batch says in its own client's window
abbrev pub reading_of : Entry → DecodedBatch
reading_of entry = decode_batch (bounds_of (replay_window entry.client) 16384) (file_reset First) (words entry.batch)

-- the tasks that a record draws, so many records having been accepted before it; a refused one draws nothing
unfoldable pub drawn_by : (count : ℕ) → Entry → List Drawn
drawn_by count entry = cond (eqb (record_refusal entry) 0) (numbered (ticket_of_count count) 0 (tasks_drawn (reading_of entry))) []

unfoldable pub drawn_from : (count : ℕ) → List Entry → List Drawn
drawn_from count [] = []
drawn_from count (entry ∷ entries) = drawn_by count entry ++ drawn_from (count_after count entry) entries

-- the tasks alone
unfoldable pub tasks_of : List Drawn → List Task
tasks_of [] = []
tasks_of (d ∷ ds) = d.task ∷ tasks_of ds
