-- Internal: the totals while a file is read: the numbers so far, and whether none has grown too large.
use Rattle.std.specs.Prelude.{Bool, false, cond, List, [], ◌∷◌, ℕ, ◌+◌, ◌-◌, ◌*◌, eqb, leb, get_or, set}
use Rattle.register.specs.declared.task.Task.{Task}
use Rattle.task_check.specs.Faults.{fault_number}
use Rattle.batch.specs.Batch.{BatchEnd, finished, faulty, DecodedBatch, tasks_drawn}
use Rattle.records.specs.declared.Edition.{Edition}
use Rattle.records.specs.declared.Edition.TheVariants.{First, Second}
use Rattle.records.specs.declared.Found.{Found}
use Rattle.records.specs.declared.Found.TheVariants.{Nothing, Record, BadVersion, BadRecord}
use Rattle.records.specs.Records.{Entry}
use Rattle.records.specs.Reading.{entry_in}
use Rattle.records.specs.Editions.{score_holds, submission}
use Rattle.lines.specs.Answered.{record_refusal}
use Rattle.totals.specs.Totals.{largest}
use Rattle.tally.specs.declared.Running.{Running}
use Rattle.tally.specs.Counts.{pixels_of, batch_of}

-- a number more at a position, if it still fits
unfoldable pub plus : (k n : ℕ) → Running → Running
plus k n s =
    cond (leb (get_or s.counts k 0 + n) largest)
    (record { fits = s.fits; counts = set s.counts k (get_or s.counts k 0 + n) })
    (record { fits = false; counts = s.counts })

abbrev pub task_plus : Task → Running → Running
task_plus task s = plus 3 (cond task.blending.on (pixels_of task) 0) (plus 2 (pixels_of task) (plus 1 1 s))

unfoldable pub tasks_plus : List Task → Running → Running
tasks_plus [] s = s
tasks_plus (task ∷ tasks) s = tasks_plus tasks (task_plus task s)

abbrev pub end_plus : BatchEnd → Running → Running
end_plus finished s = s
end_plus (faulty fault offset) s = plus (fault_number fault - 16) 1 s

-- the tasks of a reading, and its end
abbrev pub rest_plus : DecodedBatch → Running → Running
rest_plus batch s = end_plus batch.ending (tasks_plus (tasks_drawn batch) s)

abbrev pub ran_plus : DecodedBatch → Running → Running
ran_plus batch s = rest_plus batch (plus 0 1 s)

abbrev pub unscored_plus : Edition → Running → Running
unscored_plus First s = plus 13 1 s
unscored_plus Second s = s

-- a record that is submitted
abbrev pub submitted_plus : Edition → Entry → Running → Running
submitted_plus edition entry s = cond (eqb (record_refusal entry) 0) (ran_plus (batch_of edition entry) s) s

abbrev pub record_plus : Edition → Entry → Running → Running
record_plus edition entry s = cond (score_holds edition entry) (submitted_plus edition (submission edition entry) (unscored_plus edition s)) (unscored_plus edition s)

unfoldable pub entries_plus : Edition → List Entry → Running → Running
entries_plus edition [] s = s
entries_plus edition (entry ∷ entries) s = entries_plus edition entries (record_plus edition entry s)

-- what a step of the reading found
abbrev pub found_plus : Edition → Found → (held : List ℕ) → Running → Running
found_plus edition Nothing held s = s
found_plus edition (Record end) held s = record_plus edition (entry_in held end) s
found_plus edition BadVersion held s = s
found_plus edition BadRecord held s = s
