-- Where a rectangle of pixels lies in memory (01, "Faults of a taken batch": the span). All sums are of numbers that do not wrap.
use Rattle.std.specs.Prelude.{◌≡◌, ℕ, ◌+◌, ◌-◌, ◌*◌, ◌<◌}
use Rattle.range.specs.declared.Range.{Range}
use Rattle.range.specs.Range.{range_of}
use Rattle.pixel.specs.Formats.{bytes_per_pixel}
use Rattle.surface.specs.declared.Surface.{Surface}

-- bytes of a row: its pixels, without what the stride leaves between rows
abbrev pub row_length : Surface → ℕ
row_length s = s.width * bytes_per_pixel s.format

-- the first byte of row y
abbrev pub row_start : Surface → ℕ → ℕ
row_start s y = s.address + y * s.stride

-- the first byte of pixel (x, y)
abbrev pub pixel_start : Surface → ℕ → ℕ → ℕ
pixel_start s x y = row_start s y + x * bytes_per_pixel s.format

-- from the address over stride x (height - 1) + width x bytes a pixel
unfoldable pub span : Surface → Range
span s = range_of s.address ((s.height - 1) * s.stride + row_length s)

-- byte i is byte j of row y
pub record InRow (s : Surface) (i y j : ℕ) : Type 0 where
  pub row : y < s.height
  pub column : j < row_length s
  pub address : i ≡ row_start s y + j

-- no byte lies in rows of both
abbrev pub DisjointRows : Surface → Surface → Type 0
DisjointRows s o = (i y j v k : ℕ) → InRow s i y j → InRow o i v k → ⊥
