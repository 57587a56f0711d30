-- Internal: one pixel of a task, drawn by itself (02, request 13); what the functions of the slow engine ask.
use Rattle.std.specs.Prelude.{◌≡◌, true, List, ℕ, ◌≤◌, ◌<◌, length}
use Rattle.transform.specs.Transform.{InPicture, rotated_size}
use Rattle.surface.specs.Surface.{span}
use Rattle.register.specs.Task.{is_buffer}
use Rattle.register.specs.declared.task.Source.{Source}
use Rattle.register.specs.declared.task.Destination.{Destination}
use Rattle.register.specs.declared.task.Task.{Task}
use Rattle.register.specs.Size.{size_of}
use Rattle.raster.specs.Preconditions.{Drawable}

-- a pixel of the turned source, which lies in memory if it is read
pub record SourcePixel (memory : List ℕ) (s : Source) (x y : ℕ) : Type 0 where
  pub within : InPicture (rotated_size s.transform.rotation (size_of s.surface)) (record { x = x; y = y })
  pub inside : is_buffer s.mode ≡ true → (span s.surface).end ≤ length memory

-- a pixel of a destination in memory
pub record DestinationPixel (memory : List ℕ) (d : Destination) (x y : ℕ) : Type 0 where
  pub within : InPicture (size_of d.surface) (record { x = x; y = y })
  pub inside : (span d.surface).end ≤ length memory

-- a task that may be drawn in this memory, all of which is lent
abbrev pub Whole : List ℕ → Task → Type 0
Whole memory t = Drawable (record { start = 0; end = length memory }) (length memory) t

-- a row of such a task
pub record Row (memory : List ℕ) (t : Task) (y : ℕ) : Type 0 where
  pub whole : Whole memory t
  pub row : y < t.output.height

-- a pixel of such a row
pub record Pixel (memory : List ℕ) (t : Task) (x y : ℕ) : Type 0 where
  pub whole : Whole memory t
  pub column : x < t.output.width
  pub row : y < t.output.height
