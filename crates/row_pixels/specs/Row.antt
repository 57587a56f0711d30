-- A row of pixels, in a buffer and in memory.
use Rattle.std.specs.Prelude.{◌≡◌, List, ℕ, ◌*◌, ◌≤◌, ◌<◌, length}
use Rattle.pixel.specs.Formats.{bytes_per_pixel, layout_of}
use Rattle.pixel.specs.Colours.{packed, unpacked}
use Rattle.pixel.specs.declared.colour.Colour.{Colour}
use Rattle.pixel.specs.declared.format.Format.{Format}
use Rattle.pixel.specs.declared.format.Format.TheVariants.{Argb8888}
use Rattle.transform.specs.Transform.{rotated_size, source_pixel}
use Rattle.transform.specs.declared.Rotation.{Rotation}
use Rattle.transform.specs.declared.Transform.{Transform}
use Rattle.transform.specs.declared.Point.{Point}
use Rattle.surface.specs.Surface.{pixel_start, span}
use Rattle.surface.specs.Memory.{mapi}
use Rattle.surface.specs.Rows.{row_byte}
use Rattle.surface.specs.Drawn.{load_pixel}
use Rattle.surface.specs.declared.Surface.{Surface}
use Rattle.register.specs.Size.{size_of}

-- ---- in a buffer

-- Internal: the colour that a word stands for: it is an ARGB8888 pixel
abbrev pub word_colour : ℕ → Colour
word_colour word = unpacked (layout_of Argb8888) word

-- Internal: the colour of pixel x of a buffer, which is a row of ARGB8888 pixels
abbrev pub colour_in : List ℕ → ℕ → Colour
colour_in buffer x = load_pixel Argb8888 buffer (x * 4)

-- Internal: the first pixels of a buffer have the colours p
abbrev pub HoldsColours : List ℕ → ℕ → (ℕ → Colour) → Type 0
HoldsColours buffer width p = (x : ℕ) → x < width → colour_in buffer x ≡ p x

-- ---- in memory

-- the colour of a surface's pixel
unfoldable pub colour_at : Surface → List ℕ → Point → Colour
colour_at s memory p = load_pixel s.format memory (pixel_start s p.x p.y)

-- the pixel of a surface that is output pixel (x, y)
unfoldable pub source_pixel_of : Surface → Transform → ℕ → ℕ → Point
source_pixel_of s t x y = source_pixel t (size_of s) (record { x = x; y = y })

-- Internal: what is asked where a row is fetched from a surface along a rotation: the surface lies in memory, the row is one of the
-- rotated picture's, and the buffer has room
pub record FetchInBounds (memory buffer : List ℕ) (s : Surface) (r : Rotation) (y width : ℕ) : Type 0 where
  pub inside : (span s).end ≤ length memory
  pub across : width ≤ (rotated_size r (size_of s)).width
  pub down : y < (rotated_size r (size_of s)).height
  pub room : width * 4 ≤ length buffer

-- Internal: a row of bytes after pixels of the colours p were stored in all of it
unfoldable pub row_stored : Format → (ℕ → Colour) → List ℕ → List ℕ
row_stored f p row = mapi (λ (j old : ℕ). row_byte (bytes_per_pixel f) (λ (x : ℕ). packed (layout_of f) (p x)) j) row

-- Internal: a row is as long as `width` pixels
abbrev pub RowIsWide : List ℕ → ℕ → Format → Type 0
RowIsWide row width f = length row ≡ width * bytes_per_pixel f
