-- What a task does to each byte (demand 2): in an output row the byte of its pixel, everywhere else what was there.
use mathlib.Core.Path.{◌≡◌, refl, ◌∙◌}
use mathlib.Core.List.{List, [], ◌∷◌, ◌++◌}
use Prim.Native.Nat.{ℕ, ◌<◌}
use lib.ListN.{length, get_or}
use Rattle.surface.specs.Surface.{InRow}
use Rattle.surface.proofs.Outside.{length_drawn_on, outside-rows, inside-row}
use Rattle.register.specs.declared.bank.Bank.{Bank}
use Rattle.register.specs.declared.task.Task.{Task}
use Rattle.task_check.specs.declared.task.Bounds.{Bounds}
use Rattle.task_check.proofs.Sound.{Sound, AllSound}
use Rattle.batch.specs.Batch.{decode_batch, tasks_drawn}
use Rattle.batch.proofs.Tasks.{drawn-sound}
use Rattle.raster.specs.Task.{draw_task, draw_tasks}
use Rattle.raster.specs.Batch.{draw_batch}
use Rattle.raster.specs.Preconditions.{ValidRectangle}
use Rattle.raster.specs.WriteFrame.{OutsideRows, OutsideAllRows, output_byte, WriteFrame}
use Rattle.raster.proofs.RowByRow.{stride-some}
use Rattle.raster.proofs.Judged.{rectangle}

module _ (t : Task) (memory : List ℕ) where
  pub length-task : length (draw_task t memory) ≡ length memory
  unfolding draw_task
  length-task = length_drawn_on t.output _ memory

  module _ (r : ValidRectangle t.output) where
    -- no byte outside the output rows changes
    pub outside-task : (i : ℕ) → OutsideRows t i → get_or (draw_task t memory) i 0 ≡ get_or memory i 0
    unfolding draw_task
    outside-task i out = outside-rows t.output _ memory (stride-some t.output r) i out

    -- byte j of row y is a byte of its pixel in the output's format
    pub inside-task : (i y j : ℕ) → i < length memory → InRow t.output i y j →
        get_or (draw_task t memory) i 0 ≡ output_byte t memory y j
    unfolding draw_task
    inside-task i y j l h = inside-row t.output _ memory r.rows_apart i y j l h

-- ---- a list of tasks

pub length-tasks : (ts : List Task) (memory : List ℕ) → length (draw_tasks ts memory) ≡ length memory
unfolding draw_tasks
length-tasks [] memory = refl
length-tasks (t ∷ ts) memory = length-tasks ts (draw_task t memory) ∙ length-task t memory

pub outside-tasks : (bounds : Bounds) (ts : List Task) → AllSound bounds ts → (memory : List ℕ) (i : ℕ) → OutsideAllRows ts i →
    get_or (draw_tasks ts memory) i 0 ≡ get_or memory i 0
unfolding draw_tasks
outside-tasks bounds [] s memory i out = refl
outside-tasks bounds (t ∷ ts) s memory i out =
    outside-tasks bounds ts s.1 (draw_task t memory) i out.1 ∙ outside-task t memory (rectangle t.output s.0.rows) i out.0

-- one of them is sound
sound-within : (bounds : Bounds) (before after : List Task) (t : Task) → AllSound bounds (before ++ t ∷ after) → Sound bounds t
sound-within bounds [] after t s = s.0
sound-within bounds (b ∷ bs) after t s = sound-within bounds bs after t s.1

-- ---- a batch, from any bank on

module _ (bounds : Bounds) (bank : Bank) (words memory : List ℕ) where
  abbrev drawn : List Task
  drawn = tasks_drawn (decode_batch bounds bank words)

  pub length-batch : length (draw_batch bounds bank words memory) ≡ length memory
  unfolding draw_batch
  length-batch = length-tasks drawn memory

  pub outside-batch : (i : ℕ) → OutsideAllRows drawn i → get_or (draw_batch bounds bank words memory) i 0 ≡ get_or memory i 0
  unfolding draw_batch
  outside-batch i out = outside-tasks bounds drawn (drawn-sound bounds bank words) memory i out

  inside-batch : (before after : List Task) (t : Task) → drawn ≡ before ++ t ∷ after → (i y j : ℕ) → i < length memory → InRow t.output i y j →
      get_or (draw_task t (draw_tasks before memory)) i 0 ≡ output_byte t (draw_tasks before memory) y j
  inside-batch before after t e i y j l h =
      let sound = sound-within bounds before after t (rw e at (drawn-sound bounds bank words)) in
      inside-task t (draw_tasks before memory) (rectangle t.output sound.rows) i y j (rw (length-tasks before memory) l) h

  pub writes : WriteFrame bounds bank words memory
  writes = record { size = length-batch; outside = outside-batch; inside = inside-batch }
