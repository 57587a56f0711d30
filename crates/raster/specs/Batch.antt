-- Memory after a batch (01, "Engine, desks, queue": run judges and draws it; 02, 5: of a faulty one "tasks before the faulty one stand").
use Rattle.std.specs.Prelude.{List, ℕ}
use Rattle.register.specs.declared.bank.Bank.{Bank}
use Rattle.task_check.specs.declared.task.Bounds.{Bounds}
use Rattle.batch.specs.Batch.{decode_batch, tasks_drawn}
use Rattle.raster.specs.Task.{draw_tasks}

-- a batch of these words, read from this bank on: its tasks in order, of a faulty one those before the fault
unfoldable pub draw_batch : Bounds → Bank → List ℕ → List ℕ → List ℕ
draw_batch bounds bank words memory = draw_tasks (tasks_drawn (decode_batch bounds bank words)) memory
