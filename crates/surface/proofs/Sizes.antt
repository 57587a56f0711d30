-- How large things get: a pixel, a row, and the way down to a row. With fields of 16 bits every sum of them fits in 64.
use Prim.Native.Nat.{ℕ, ◌*◌, ◌≤◌, ◌<◌}
use native.Mathlib.Nat.{mul-le-mul}
use native.Mathlib.Omega.{arith}
use Rattle.pixel.specs.Formats.{bytes_per_pixel}
use Rattle.pixel.specs.declared.format.Format.{Format}
use Rattle.pixel.specs.declared.format.Format.TheVariants.{Argb8888, Rgb888, Rgb565}

-- a pixel has a byte at least, and four at most
pub bytes-some : (f : Format) → 0 < bytes_per_pixel f
bytes-some Argb8888 = omega arith
bytes-some Rgb888 = omega arith
bytes-some Rgb565 = omega arith

pub bytes_most : (f : Format) → bytes_per_pixel f ≤ 4
bytes_most Argb8888 = omega arith
bytes_most Rgb888 = omega arith
bytes_most Rgb565 = omega arith

-- n pixels are shorter than 2 ^ 18 bytes
pub pixels_most : (n : ℕ) (f : Format) → n ≤ 65535 → n * bytes_per_pixel f ≤ 262140
pixels_most n f l = mul-le-mul {n₂ = 65535} {m₂ = 4} l (bytes_most f)

-- a row begins less than 2 ^ 32 bytes after the first
pub down_most : (y s : ℕ) → y ≤ 65535 → s ≤ 65535 → y * s ≤ 4294836225
down_most y s l m = mul-le-mul {n₂ = 65535} {m₂ = 65535} l m
