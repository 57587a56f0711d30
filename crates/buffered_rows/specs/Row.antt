-- Internal: used only in contracts of helper functions. Rows of a task by way of buffers (02, request 13).
use Rattle.std.specs.Prelude.{◌≡◌, true, List, ℕ, ◌+◌, ◌*◌, ◌≤◌, length}
use Rattle.pixel.specs.Formats.{bytes_per_pixel}
use Rattle.pixel.specs.declared.colour.Colour.{Colour}
use Rattle.pixel.specs.declared.format.Format.TheVariants.{Argb8888}
use Rattle.surface.specs.Surface.{row_start}
use Rattle.surface.specs.Drawn.{load_pixel}
use Rattle.register.specs.declared.task.Task.{Task}
use Rattle.row_pixels.specs.Row.{colour_in, HoldsColours}
use Rattle.row_pixels.specs.Composite.{composite}
use Rattle.kinds.specs.declared.Finish.{Finish}
use Rattle.kinds.specs.declared.Finish.TheVariants.{Copied, InPlace, Blended}
use Rattle.raster.specs.Task.{source_colour, pixel_colour}
use Rattle.raster.specs.Row.{RowFits, SourceRowInBounds, HoldsRow}

-- what is asked where a row is blended in a window's bytes from `at` on
pub record RowMixes (t : Task) (at : ℕ) (bytes buffer : List ℕ) : Type 0 where
  pub fits : RowFits t.output at bytes buffer
  pub format : t.output.format ≡ Argb8888

-- what is asked of the buffers of the source and of the destination
pub record RowBuffers (t : Task) (s d : List ℕ) : Type 0 where
  pub source : HoldsRow t.output.width s
  pub destination : HoldsRow t.output.width d

-- what is asked where row y of a task is read
pub record RowReadable (memory s : List ℕ) (t : Task) (y : ℕ) : Type 0 where
  pub source : SourceRowInBounds memory s t.source y t.output.width
  pub destination : t.blending.on ≡ true →
      row_start t.destination.surface y + t.output.width * bytes_per_pixel t.destination.surface.format ≤ length memory

-- what the buffers hold when it was read
abbrev pub RowRead : Finish → Task → (memory s d : List ℕ) → ℕ → Type 0
RowRead Copied t memory s d y = HoldsColours s t.output.width (λ (x : ℕ). source_colour t.source memory x y)
RowRead InPlace t memory s d y = HoldsColours s t.output.width (λ (x : ℕ). source_colour t.source memory x y)
RowRead Blended t memory s d y = HoldsColours d t.output.width (λ (x : ℕ). pixel_colour t memory x y)

-- the colour that pixel x of a row becomes, which lies in a window's bytes from `at` on
abbrev pub finished_colour : Finish → Task → (s d bytes : List ℕ) → (at x : ℕ) → Colour
finished_colour Copied t s d bytes at x = colour_in s x
finished_colour InPlace t s d bytes at x = composite t.blending t.source.alpha t.destination.alpha (colour_in s x) (load_pixel Argb8888 bytes (at + x * 4))
finished_colour Blended t s d bytes at x = colour_in d x
