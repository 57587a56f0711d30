-- A picture of a rectangle in the PPM format: a header, then row after row three bytes a pixel, red, green and blue. Alpha is not shown.
use Rattle.std.specs.Prelude.{ℕ, ◌+◌, ◌*◌, ◌/◌, ◌%◌, Bool, cond, ◌&&◌, List, [], ◌∷◌, ◌++◌, length, eqb, leb, Option, Some, None}
use Rattle.text.specs.Decimal.{decimal}
use Rattle.pixel.specs.declared.colour.Colour.{Colour}
use Rattle.surface.specs.declared.Surface.{Surface}
use Rattle.surface.specs.Surface.{row_start, row_length, pixel_start}
use Rattle.surface.specs.Memory.{mapi, overwrite_range}
use Rattle.surface.specs.Drawn.{load_pixel}

-- `P6`, width and height, and the greatest value of a channel, each ended by a line feed
unfoldable pub header_of : (width height : ℕ) → List ℕ
header_of width height = (80 ∷ 54 ∷ 10 ∷ []) ++ (decimal width ++ (32 ∷ (decimal height ++ (10 ∷ 50 ∷ 53 ∷ 53 ∷ 10 ∷ []))))

-- bytes of a row of a picture
abbrev pub shown_length : Surface → ℕ
shown_length s = 3 * s.width

-- byte k of a pixel: red, green, blue
unfoldable pub channel_of : Colour → ℕ → ℕ
channel_of c k = cond (eqb k 0) c.red (cond (eqb k 1) c.green c.blue)

-- byte j of a row of pixels in these colours
unfoldable pub shown_byte : (ℕ → Colour) → ℕ → ℕ
shown_byte colour j = channel_of (colour (j / 3)) (j % 3)

-- the colours of row y of a surface in memory
abbrev pub row_colour : Surface → (memory : List ℕ) → ℕ → ℕ → Colour
row_colour s memory y x = load_pixel s.format memory (pixel_start s x y)

-- the row lies in memory, and its picture has room in a buffer
abbrev pub has_room : Surface → (memory : List ℕ) → ℕ → (out : List ℕ) → Bool
has_room s memory y out = leb (row_start s y + row_length s) (length memory) && leb (shown_length s) (length out)

-- how many bytes of a buffer are written: the row's, or none where it has no room
abbrev pub shown_size : Surface → (memory : List ℕ) → ℕ → (out : List ℕ) → Option ℕ
shown_size s memory y out = cond (has_room s memory y out) (Some (shown_length s)) None

-- a buffer after the first n bytes of a row of pixels in these colours were put at its start; other bytes are as they were
unfoldable pub row_shown : (ℕ → Colour) → ℕ → List ℕ → List ℕ
row_shown colour n out = mapi (overwrite_range 0 n (λ (j old : ℕ). shown_byte colour j)) out
