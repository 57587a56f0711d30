-- Which bytes a batch writes, and with what (demand 2: "no byte outside a task's output rows changes"; 01, "Pixels"). proofs/Outside.antt proves
-- `WriteFrame` of every batch, from any bank on, within any bounds, in any memory.
use Rattle.std.specs.Prelude.{◌≡◌, List, [], ◌∷◌, ◌++◌, ℕ, ◌/◌, ◌%◌, ◌<◌, length, get_or}
use Rattle.word.specs.Word.{byte_of}
use Rattle.pixel.specs.Formats.{bytes_per_pixel, layout_of}
use Rattle.pixel.specs.Colours.{packed}
use Rattle.surface.specs.Surface.{InRow}
use Rattle.register.specs.declared.bank.Bank.{Bank}
use Rattle.register.specs.declared.task.Task.{Task}
use Rattle.task_check.specs.declared.task.Bounds.{Bounds}
use Rattle.batch.specs.Batch.{decode_batch, tasks_drawn}
use Rattle.raster.specs.Task.{pixel_colour, draw_task, draw_tasks}
use Rattle.raster.specs.Batch.{draw_batch}

-- byte i lies in no output row of a task; of any of these tasks
abbrev pub OutsideRows : Task → ℕ → Type 0
OutsideRows t i = (y j : ℕ) → InRow t.output i y j → ⊥

abbrev pub OutsideAllRows : List Task → ℕ → Type 0
OutsideAllRows [] i = Unit {0}
OutsideAllRows (t ∷ ts) i = OutsideRows t i × OutsideAllRows ts i

-- byte j of output row y: a byte of its pixel in the output's format, the pixel's colour computed from the memory before the task
abbrev pub output_byte : Task → (memory : List ℕ) → (y j : ℕ) → ℕ
output_byte t memory y j =
    let format = t.output.format in
    byte_of (packed (layout_of format) (pixel_colour t memory (j / bytes_per_pixel format) y)) (j % bytes_per_pixel format)

pub record WriteFrame (bounds : Bounds) (bank : Bank) (words memory : List ℕ) : Type 0 where
  -- memory is as long as before
  pub size : length (draw_batch bounds bank words memory) ≡ length memory
  -- a byte in no output row of a task that is drawn is as before
  pub outside : (i : ℕ) → OutsideAllRows (tasks_drawn (decode_batch bounds bank words)) i → get_or (draw_batch bounds bank words memory) i 0 ≡ get_or memory i 0
  -- and each of the tasks writes every byte of its output rows
  pub inside : (before after : List Task) (t : Task) → tasks_drawn (decode_batch bounds bank words) ≡ before ++ t ∷ after →
      (i y j : ℕ) → i < length memory → InRow t.output i y j →
      get_or (draw_task t (draw_tasks before memory)) i 0 ≡ output_byte t (draw_tasks before memory) y j
