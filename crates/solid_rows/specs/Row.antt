-- Internal: used only in contracts of helper functions. Rows of a task that lays one colour over its output (02, request 13; a tint of request 1 does).
use Rattle.std.specs.Prelude.{◌≡◌, List, ℕ, ◌+◌, ◌≤◌, length}
use Rattle.pixel.specs.declared.colour.Colour.{Colour as Channels}
use Rattle.pixel.specs.declared.format.Format.TheVariants.{Argb8888}
use Rattle.surface.specs.Surface.{row_length}
use Rattle.surface.specs.declared.Surface.{Surface}
use Rattle.register.specs.declared.task.Task.{Task}
use Rattle.row_pixels.specs.Composite.{source_for_blending, with_surface_alpha}

-- the colour that is laid over it: the source's as it goes into blending, with its alpha by the source's mode
abbrev pub solid_colour : Task → Channels
solid_colour t = with_surface_alpha t.source.alpha (source_for_blending t.blending t.source.colour)

-- what is asked where a row is drawn in a window's bytes from `at` on
pub record SolidFits (o : Surface) (at : ℕ) (bytes : List ℕ) : Type 0 where
  pub inside : at + row_length o ≤ length bytes
  pub format : o.format ≡ Argb8888
