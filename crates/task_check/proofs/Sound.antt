-- What a task that breaks no rule has, as plain facts for the drawing: rectangles of sound rows, that lie where the batch may
-- read or write, and that have no byte of a row in common with the output.
use Prim.Native.Nat.{◌%◌, ◌≤◌, ◌<◌}
use mathlib.Core.Path.{◌≡◌}
use mathlib.Core.Bool.{true, false}
use mathlib.Core.Logic.{◌⊎◌}
use mathlib.Core.List.{List, [], ◌∷◌}
use Rattle.range.specs.declared.Range.{Range}
use Rattle.transform.specs.declared.Rotation.TheVariants.{Rotate0}
use Rattle.surface.specs.Surface.{row_length, span, DisjointRows}
use Rattle.surface.specs.declared.Surface.{Surface}
use Rattle.register.specs.declared.task.Source.{Source}
use Rattle.register.specs.declared.task.Destination.{Destination}
use Rattle.register.specs.declared.task.Task.{Task}
use Rattle.register.specs.Size.{size_of}
use Rattle.task_check.specs.declared.task.Bounds.{Bounds}
use Rattle.task_check.specs.Rules.{is_buffer_source, rotated_source_size, common_of}

pub record Sides (s : Surface) : Type 0 where
  pub width_positive : 0 < s.width
  pub width_max : s.width ≤ 4096
  pub height_positive : 0 < s.height
  pub height_max : s.height ≤ 4096

-- a rectangle in memory: its rows do not overlap
pub record Rows (s : Surface) : Type 0 where
  pub sides : Sides s
  pub eights : s.stride % 8 ≡ 0
  pub roomy : row_length s ≤ s.stride
  pub some : 0 < s.stride

-- the run r lies wholly in q
abbrev pub Within : Range → Range → Type 0
Within r q = (q.start ≤ r.start) × (r.end ≤ q.end)

-- wholly in the window, or wholly in common
abbrev pub InReach : Bounds → Range → Type 0
InReach bounds r = Within r bounds.window ⊎ Within r (common_of bounds)

-- what the source is, if it is read from memory
pub record SoundSource (bounds : Bounds) (s : Source) (output : Surface) : Type 0 where
  pub rows : Rows s.surface
  pub reach : InReach bounds (span s.surface)
  pub separate : DisjointRows s.surface output

-- what the destination is, while blending: separate from the output, or the output itself, pixel by pixel
pub record SoundDestination (bounds : Bounds) (d : Destination) (output : Surface) : Type 0 where
  pub rows : Rows d.surface
  pub enabled : d.enabled ≡ true
  pub size : size_of d.surface ≡ size_of output
  pub reach : InReach bounds (span d.surface)
  pub separate : DisjointRows d.surface output ⊎ (d.surface ≡ output)

pub record Sound (bounds : Bounds) (t : Task) : Type 0 where
  pub sides : Sides t.source.surface
  pub enabled : t.source.enabled ≡ true
  pub upright : is_buffer_source t.source ≡ false → t.source.transform.rotation ≡ Rotate0
  pub source : is_buffer_source t.source ≡ true → SoundSource bounds t.source t.output
  pub rows : Rows t.output
  pub size : size_of t.output ≡ rotated_source_size t.source
  pub within : Within (span t.output) bounds.window
  pub destination : t.blending.on ≡ true → SoundDestination bounds t.destination t.output

-- every task of a list
abbrev pub AllSound : Bounds → List Task → Type 0
AllSound bounds [] = Unit {0}
AllSound bounds (t ∷ ts) = Sound bounds t × AllSound bounds ts
