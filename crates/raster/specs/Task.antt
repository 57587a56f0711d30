-- Memory after a task, pixel by pixel (01, "Pixels"; 02, request 3). Every colour is computed from the memory before the task.
use Rattle.std.specs.Prelude.{cond, List, [], ◌∷◌, ℕ}
use Rattle.pixel.specs.declared.colour.Colour.{Colour as Channels}
use Rattle.pixel.specs.Gradient.{gradient_colour}
use Rattle.transform.specs.declared.Point.{Point}
use Rattle.surface.specs.Drawn.{draw_surface}
use Rattle.register.specs.declared.task.Source.{Source}
use Rattle.register.specs.declared.task.SourceMode.{SourceMode}
use Rattle.register.specs.declared.task.SourceMode.TheVariants.{Buffer, Colour, GradientX, GradientY}
use Rattle.register.specs.declared.task.Destination.{Destination}
use Rattle.register.specs.declared.task.Task.{Task}
use Rattle.row_pixels.specs.Row.{colour_at, source_pixel_of}
use Rattle.row_pixels.specs.Composite.{composite}

-- the colour of the source's pixel p, by source mode. Shaded, its place is counted along x or along y in the source's own picture, so before flips
abbrev pub source_mode_colour : SourceMode → Source → List ℕ → Point → Channels
source_mode_colour Buffer s memory p = colour_at s.surface memory p
source_mode_colour Colour s memory p = s.colour
source_mode_colour GradientX s memory p = gradient_colour s.colour s.steps p.x
source_mode_colour GradientY s memory p = gradient_colour s.colour s.steps p.y

-- the source colour of output pixel (x, y): that of the source pixel which flips and turn bring there
unfoldable pub source_colour : Source → List ℕ → ℕ → ℕ → Channels
source_colour s memory x y = source_mode_colour s.mode s memory (source_pixel_of s.surface s.transform x y)

-- the destination has no flips and no turn
unfoldable pub destination_colour : Destination → List ℕ → ℕ → ℕ → Channels
destination_colour d memory x y = colour_at d.surface memory (record { x = x; y = y })

-- the colour of output pixel (x, y). Without blending it is the source's, with its own alpha: alpha modes are not used
unfoldable pub pixel_colour : Task → List ℕ → ℕ → ℕ → Channels
pixel_colour t memory x y =
    cond t.blending.on
    (composite t.blending t.source.alpha t.destination.alpha (source_colour t.source memory x y) (destination_colour t.destination memory x y))
    (source_colour t.source memory x y)

unfoldable pub draw_task : Task → List ℕ → List ℕ
draw_task t memory = draw_surface t.output (pixel_colour t memory) memory

-- a batch: each task on the memory that the tasks before it left
unfoldable pub draw_tasks : List Task → List ℕ → List ℕ
draw_tasks [] memory = memory
draw_tasks (t ∷ ts) memory = draw_tasks ts (draw_task t memory)
