-- Internal: used only in contracts of helper functions. One row of a task, of whatever kind.
use Rattle.std.specs.Prelude.{◌≡◌, true, false, List, ℕ, ◌+◌, ◌*◌, ◌≤◌, ◌<◌, length}
use Rattle.range.specs.declared.Range.{Range}
use Rattle.pixel.specs.Formats.{bytes_per_pixel, layout_of}
use Rattle.pixel.specs.Colours.{packed}
use Rattle.pixel.specs.declared.colour.Colour.{Colour}
use Rattle.pixel.specs.Gradient.{gradient_colour}
use Rattle.transform.specs.Transform.{rotated_size, mirrored}
use Rattle.transform.specs.declared.Rotation.TheVariants.{Rotate0}
use Rattle.surface.specs.Surface.{row_length, row_start, span}
use Rattle.surface.specs.Memory.{mapi, overwrite_range}
use Rattle.surface.specs.Rows.{row_byte}
use Rattle.surface.specs.declared.Surface.{Surface}
use Rattle.register.specs.Task.{is_buffer}
use Rattle.register.specs.declared.task.Source.{Source}
use Rattle.register.specs.declared.task.SourceMode.{SourceMode}
use Rattle.register.specs.declared.task.SourceMode.TheVariants.{Buffer, Colour as Solid, GradientX, GradientY}
use Rattle.register.specs.declared.task.Task.{Task}
use Rattle.register.specs.Size.{size_of}
use Rattle.raster.specs.Task.{pixel_colour}
use Rattle.raster.specs.Preconditions.{Drawable}

-- bytes after a row of a surface was drawn in them, from byte `at` on, in the colours p
unfoldable pub row_drawn : Surface → ℕ → (ℕ → Colour) → List ℕ → List ℕ
row_drawn s at p bytes =
    mapi (overwrite_range at (row_length s) (λ (j old : ℕ). row_byte (bytes_per_pixel s.format) (λ (x : ℕ). packed (layout_of s.format) (p x)) j)) bytes

-- memory after row y of a task alone was drawn, its colours computed from the memory before the row
unfoldable pub draw_row : Task → ℕ → List ℕ → List ℕ
draw_row t y memory = row_drawn t.output (row_start t.output y) (λ (x : ℕ). pixel_colour t memory x y) memory

-- the one colour of an output row, where it has one and the source is not turned
abbrev pub uniform_colour : SourceMode → Source → ℕ → Colour
uniform_colour Buffer s y = s.colour
uniform_colour Solid s y = s.colour
uniform_colour GradientX s y = s.colour
uniform_colour GradientY s y = gradient_colour s.colour s.steps (mirrored s.transform.flip.vertical s.surface.height y)

-- what is asked where a row of the source is fetched
pub record SourceRowInBounds (memory buffer : List ℕ) (s : Source) (y width : ℕ) : Type 0 where
  pub room : width * 4 ≤ length buffer
  pub across : width ≤ (rotated_size s.transform.rotation (size_of s.surface)).width
  pub down : y < (rotated_size s.transform.rotation (size_of s.surface)).height
  pub upright : is_buffer s.mode ≡ false → s.transform.rotation ≡ Rotate0
  pub inside : is_buffer s.mode ≡ true → (span s.surface).end ≤ length memory

-- what is asked where a row is drawn in a window's bytes from `at` on: it lies there, and the buffer holds a row
pub record RowFits (o : Surface) (at : ℕ) (bytes buffer : List ℕ) : Type 0 where
  pub inside : at + row_length o ≤ length bytes
  pub room : o.width * 4 ≤ length buffer

-- what is asked where row y of a task is drawn
pub record RowDrawable (window : Range) (memory : List ℕ) (t : Task) (y : ℕ) : Type 0 where
  pub drawable : Drawable window (length memory) t
  pub row : y < t.output.height

-- a buffer has room for a row of so many pixels
abbrev pub HoldsRow : ℕ → List ℕ → Type 0
HoldsRow width buffer = width * 4 ≤ length buffer
