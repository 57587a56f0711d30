-- Two turns make one (02, request 8: "for any picture, drawing with the first and then with the second, each into separate rows, same format, blending
-- off, gives the bytes of one drawing with the composed setting"; "equal drawing for all pictures holds exactly for the same orientation"). What to read
-- is `TwoTasks` and `Orientations`; `TwoTurns` says the same of pictures, with less asked. proofs/Composition/Twice.antt proves `Tasks`, `TwoTurns` and `TwoTasks`,
-- proofs/Composition/Orientation.antt `Orientations`. That composition is associative and has a neutral setting and inverses is said of the settings themselves, in
-- crate orientation, specs/Laws.antt.
use Rattle.std.specs.Prelude.{◌≡◌, true, false, List, ◌↔◌, ℕ, ◌<◌, length, get_or}
use Rattle.range.specs.declared.Range.{Range}
use Rattle.transform.specs.declared.Size.{Size}
use Rattle.transform.specs.declared.Transform.{Transform}
use Rattle.transform.specs.Transform.{rotated_size}
use Rattle.orientation.specs.Compose.{compose, SameOrientation}
use Rattle.surface.specs.declared.Surface.{Surface}
use Rattle.surface.specs.Surface.{InRow}
use Rattle.surface.specs.Drawn.{draw_surface}
use Rattle.register.specs.declared.task.Task.{Task}
use Rattle.register.specs.Task.{is_buffer}
use Rattle.register.specs.Size.{size_of}
use Rattle.row_pixels.specs.Row.{colour_at, source_pixel_of}
use Rattle.raster.specs.Task.{draw_task}
use Rattle.raster.specs.Preconditions.{ValidRectangle, EndsBelow, Drawable}

-- memory after the picture s was drawn with a setting into o, without blending
unfoldable pub turned : Surface → Transform → Surface → List ℕ → List ℕ
turned s setting o memory = draw_surface o (λ (x y : ℕ). colour_at s memory (source_pixel_of s setting x y)) memory

-- o has the picture's turned size and its format, and lies in a memory of n bytes. That no byte lies in rows of both is not asked: all colours are
-- those of the memory before the drawing. (A task whose rows meet is not drawn: fault 28.)
pub record Fits (n : ℕ) (s : Surface) (setting : Transform) (o : Surface) : Type 0 where
  pub size : rotated_size setting.rotation (size_of s) ≡ size_of o
  pub format : s.format ≡ o.format
  pub rows : ValidRectangle o
  pub inside : EndsBelow n o

-- a task of which the request speaks: it may be drawn (so no byte lies in rows of its source and its output), reads its source from memory, in the
-- output's format, and does not blend
pub record UnblendedCopy (window : Range) (n : ℕ) (t : Task) : Type 0 where
  pub drawable : Drawable window n t
  pub reads : is_buffer t.source.mode ≡ true
  pub unblended : t.blending.on ≡ false
  pub format : t.source.surface.format ≡ t.output.format

-- what such a task draws is the picture, turned
pub record Copies (n : ℕ) (t : Task) : Type 0 where
  pub fits : Fits n t.source.surface t.source.transform t.output
  pub draws : (memory : List ℕ) → draw_task t memory ≡ turned t.source.surface t.source.transform t.output memory

abbrev pub Tasks : Type 0
Tasks = (window : Range) (n : ℕ) (t : Task) → UnblendedCopy window n t → Copies n t

-- s drawn with a setting into m, and m with another into o; and s drawn with the composed setting into o
module _ (s m o : Surface) (a b : Transform) (memory : List ℕ) where
  abbrev pub twice : List ℕ
  twice = turned m b o (turned s a m memory)

  abbrev pub once : List ℕ
  once = turned s (compose a b) o memory

  pub record Same : Type 0 where
    -- every byte of the output's rows is the same
    pub output : (i y j : ℕ) → InRow o i y j → get_or twice i 0 ≡ get_or once i 0
    -- and every other but those of the picture in between
    pub others : (i : ℕ) → i < length memory → ((y j : ℕ) → InRow m i y j → ⊥) → get_or twice i 0 ≡ get_or once i 0
    -- and where the two fit, so does the one
    pub fits : Fits (length memory) s (compose a b) o

abbrev pub TwoTurns : Type 0
TwoTurns = (s m o : Surface) (a b : Transform) (memory : List ℕ) → Fits (length memory) s a m → Fits (length memory) m b o → Same s m o a b memory

-- the request's own sentence, of tasks and what drawing them leaves (`draw_task`): one in the place of two
pub record InPlace (first second one : Task) : Type 0 where
  pub between : second.source.surface ≡ first.output
  pub source : one.source.surface ≡ first.source.surface
  pub output : one.output ≡ second.output
  pub setting : one.source.transform ≡ compose first.source.transform second.source.transform

abbrev pub TwoTasks : Type 0
TwoTasks = (window : Range) (memory : List ℕ) (first second one : Task) →
    UnblendedCopy window (length memory) first → UnblendedCopy window (length memory) second → UnblendedCopy window (length memory) one → InPlace first second one →
    (i y j : ℕ) → InRow one.output i y j → get_or (draw_task second (draw_task first memory)) i 0 ≡ get_or (draw_task one memory) i 0

-- two settings draw every picture alike
pub record EqualDrawing (a b : Transform) : Type 0 where
  pub size : (s : Size) → rotated_size a.rotation s ≡ rotated_size b.rotation s
  pub bytes : (s o : Surface) (memory : List ℕ) → Fits (length memory) s a o → turned s a o memory ≡ turned s b o memory

abbrev pub Orientations : Type 0
Orientations = (a b : Transform) → EqualDrawing a b ↔ SameOrientation a b
