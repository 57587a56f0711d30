-- Precondition of drawing a task; established by checks 25 to 28 (01, "Faults of a taken batch"; 02, request 7).
-- That no byte is written which is read elsewhere is stated of rows, not of spans.
use Rattle.std.specs.Prelude.{◌≡◌, true, false, ◌⊎◌, ℕ, ◌≤◌, ◌<◌}
use Rattle.range.specs.declared.Range.{Range}
use Rattle.transform.specs.Transform.{rotated_size}
use Rattle.transform.specs.declared.Rotation.TheVariants.{Rotate0}
use Rattle.surface.specs.Surface.{row_length, span, DisjointRows}
use Rattle.surface.specs.declared.Surface.{Surface}
use Rattle.register.specs.Task.{is_buffer}
use Rattle.register.specs.declared.task.Task.{Task}
use Rattle.register.specs.Size.{size_of}
use Rattle.task_check.specs.declared.task.Bounds.{Bounds}

-- a rectangle of 1 to 4,096 pixels a side whose rows do not meet
pub record ValidRectangle (s : Surface) : Type 0 where
  pub width_positive : 0 < s.width
  pub width_max : s.width ≤ 4096
  pub height_positive : 0 < s.height
  pub height_max : s.height ≤ 4096
  pub rows_apart : row_length s ≤ s.stride

-- a source that is read
pub record SourceInBounds (Reach : Surface → Type 0) (s o : Surface) : Type 0 where
  pub reach : Reach s
  pub separate : DisjointRows s o

-- a destination, which is read: apart from the output, or the output itself
pub record DestinationInBounds (Reach : Surface → Type 0) (d o : Surface) : Type 0 where
  pub reach : Reach d
  pub size : size_of d ≡ size_of o
  pub separate : DisjointRows d o ⊎ (d ≡ o)

-- a task that may be drawn in a window; `Reach` says which rectangles may be read
pub record TaskInBounds (window : Range) (Reach : Surface → Type 0) (t : Task) : Type 0 where
  pub output : ValidRectangle t.output
  pub begins : window.start ≤ t.output.address
  pub ends : (span t.output).end ≤ window.end
  pub size : rotated_size t.source.transform.rotation (size_of t.source.surface) ≡ size_of t.output
  pub upright : is_buffer t.source.mode ≡ false → t.source.transform.rotation ≡ Rotate0
  pub source : is_buffer t.source.mode ≡ true → SourceInBounds Reach t.source.surface t.output
  pub destination : t.blending.on ≡ true → DestinationInBounds Reach t.destination.surface t.output

-- a rectangle in the first n bytes
abbrev pub EndsBelow : ℕ → Surface → Type 0
EndsBelow n s = (span s).end ≤ n

-- a task that may be drawn in a window of a memory of n bytes
pub record Drawable (window : Range) (n : ℕ) (t : Task) : Type 0 where
  pub room : window.end ≤ n
  pub clear : TaskInBounds window (EndsBelow n) t

-- Internal: a memory of n bytes that holds a client's window and common
pub record BoundsInMemory (bounds : Bounds) (n : ℕ) : Type 0 where
  pub window : bounds.window.end ≤ n
  pub common : bounds.common_length ≤ n
