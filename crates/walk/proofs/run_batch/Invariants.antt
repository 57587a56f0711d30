use mathlib.Core.Path.{◌≡◌}
use lib.ListN.{length}
use Rattle.task_check.proofs.Sound.{AllSound}
use Rattle.batch.specs.Batch.{decode_batch, validation_of}
use Rattle.batch.specs.Walk.{words_in, reading_left, tasks_left}
use Rattle.batch.proofs.Steps.{counted}
use Rattle.raster.specs.Task.{draw_tasks}
use Rattle.walk.proofs.run_batch.Given as goal

abbrev pub invariant-loop-task : goal.invariant-loop-task
invariant-loop-task l =
    let ws = words_in l.fn.batch in
    (draw_tasks (decode_batch l.fn.bounds l.fn.bank ws).tasks l.initial.memory ≡ draw_tasks (tasks_left l.tasks) l.memory)
    × (validation_of (decode_batch l.fn.bounds l.fn.bank ws) ≡ counted l.tasks.count (reading_left l.tasks))
    × AllSound l.fn.bounds (tasks_left l.tasks)
    × (length l.memory ≡ length l.initial.memory)

abbrev pub decreases-loop-task : goal.decreases-loop-task
decreases-loop-task l = length (tasks_left l.tasks)
