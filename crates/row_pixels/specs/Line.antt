-- Internal: what a byte of a row of pixels is.
use Rattle.std.specs.Prelude.{ℕ}
use Rattle.pixel.specs.Colours.{packed}
use Rattle.pixel.specs.Formats.{bytes_per_pixel, layout_of}
use Rattle.pixel.specs.declared.colour.Colour.{Colour}
use Rattle.pixel.specs.declared.format.Format.{Format}
use Rattle.surface.specs.Rows.{row_byte}

-- byte j of a row of pixels of the colours p
abbrev pub pixel_byte : Format → (ℕ → Colour) → ℕ → ℕ
pixel_byte f p j = row_byte (bytes_per_pixel f) (λ (x : ℕ). packed (layout_of f) (p x)) j
