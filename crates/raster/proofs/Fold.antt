-- The tasks of a batch, drawn one after another.
use mathlib.Core.Path.{◌≡◌, refl, ap, ◌∙◌}
use mathlib.Core.List.{List}
use Prim.Native.Nat.{ℕ}
use Rattle.std.specs.Prelude.{Option, Some, None}
use Rattle.register.specs.declared.bank.Bank.{Bank}
use Rattle.register.specs.declared.task.Task.{Task}
use Rattle.task_check.specs.declared.task.Bounds.{Bounds}
use Rattle.batch.specs.declared.walk.BatchTasks.{BatchTasks}
use Rattle.batch.specs.Batch.{DecodedBatch, decode_batch, tasks_drawn}
use Rattle.batch.specs.Walk.{tasks_left, GivesTask}
use Rattle.raster.specs.Task.{draw_task, draw_tasks}
use Rattle.raster.specs.Batch.{draw_batch}

-- what is left to draw, before a task is given and after it
module _ (old new : BatchTasks) (memory : List ℕ) where
  pub draws-one : (task : Task) → GivesTask old (Some task) new → draw_tasks (tasks_left old) memory ≡ draw_tasks (tasks_left new) (draw_task task memory)
  unfolding draw_tasks
  draws-one task g = ap (λ (r : DecodedBatch). draw_tasks r.tasks memory) g.0

  pub draws-none : GivesTask old None new → draw_tasks (tasks_left old) memory ≡ memory
  unfolding draw_tasks
  draws-none g = ap (λ (r : DecodedBatch). draw_tasks r.tasks memory) g.0

-- ---- a batch, faulty or not, is drawn by its tasks

pub batch-tasks : (bounds : Bounds) (bank : Bank) (ws memory : List ℕ) → draw_batch bounds bank ws memory ≡ draw_tasks (tasks_drawn (decode_batch bounds bank ws)) memory
unfolding draw_batch
batch-tasks bounds bank ws memory = refl
