-- "the ticket, the task's number in its batch (from 0) and the source mode of the last drawn task whose output rows hold that byte, or
-- `not drawn`" (02, request 10).
use Rattle.std.specs.Prelude.{List, [], ◌∷◌, Bool, cond, ◌&&◌, ℕ, ◌-◌, ◌/◌, ◌%◌, leb, ltb, Option, Some, None}
use Rattle.surface.specs.declared.Surface.{Surface}
use Rattle.surface.specs.Surface.{row_length}
use Rattle.register.specs.declared.task.SourceMode.{SourceMode}
use Rattle.register.specs.declared.task.SourceMode.TheVariants.{Buffer, Colour, GradientX, GradientY}
use Rattle.records.specs.Records.{Entry}
use Rattle.provenance.specs.declared.Touch.{Touch}
use Rattle.provenance.specs.Drawn.{Drawn, drawn_from}

-- a row of the surface holds byte i; what the stride leaves between rows is in none. Stride 0 never comes: 25
unfoldable pub holds : Surface → ℕ → Bool
holds s i =
    ltb 0 s.stride
    && leb s.address i
    && ltb ((i - s.address) / s.stride) s.height
    && ltb ((i - s.address) % s.stride) (row_length s)

-- 01, "Groups and registers": bits 3:2 of 0x010, 0 buffer, 1 colour; 02, request 3: 2 along x, 3 along y
abbrev pub mode_number : SourceMode → ℕ
mode_number Buffer = 0
mode_number Colour = 1
mode_number GradientX = 2
mode_number GradientY = 3

-- what is answered of a task
abbrev pub touch_of : Drawn → Touch
touch_of d = record { ticket = d.ticket; number = d.number; mode = d.task.source.mode }

-- the last of these tasks whose output rows hold byte i; what was found before them if none does
unfoldable pub last_from : Option Touch → (i : ℕ) → List Drawn → Option Touch
last_from found i [] = found
last_from found i (d ∷ ds) = last_from (cond (holds d.task.output i) (Some (touch_of d)) found) i ds

-- of all that these records draw
unfoldable pub touched_by : List Entry → (i : ℕ) → Option Touch
touched_by entries i = last_from None i (drawn_from 0 entries)
