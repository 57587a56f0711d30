-- The pixel formats (01, "Pixels"): each one's code, bytes a pixel, and the width in bits of its channels.
use Rattle.std.specs.Prelude.{ℕ, Bool, cond, ◌||◌, eqb}
use Rattle.pixel.specs.declared.format.Layout.{Layout}
use Rattle.pixel.specs.declared.format.Format.{Format}
use Rattle.pixel.specs.declared.format.Format.TheVariants.{Argb8888, Rgb888, Rgb565}

-- a channel that is absent is 0 bits wide
abbrev pub layout_of : Format → Layout
layout_of Argb8888 = record { code = 0x00; bytes = 4; alpha = 8; red = 8; green = 8; blue = 8 }
layout_of Rgb888 = record { code = 0x08; bytes = 3; alpha = 0; red = 8; green = 8; blue = 8 }
layout_of Rgb565 = record { code = 0x0E; bytes = 2; alpha = 0; red = 5; green = 6; blue = 5 }

-- bytes a pixel
abbrev pub bytes_per_pixel : Format → ℕ
bytes_per_pixel f = (layout_of f).bytes

-- a number is the code of a format
abbrev pub is_format : ℕ → Bool
is_format code = eqb code 0x00 || eqb code 0x08 || eqb code 0x0E

-- the format of a code; a number that is no code, which fault 24 keeps out of every register, counts as 0
abbrev pub format_of : ℕ → Format
format_of code = cond (eqb code 0x08) Rgb888 (cond (eqb code 0x0E) Rgb565 Argb8888)
