-- Nearest division by 255 (01, "Pixels"), and by shifts and adds (02, request 4). What is promised of a pixel is `div255`; `Division` says where the
-- usual trick agrees with it, and that holding at 255 makes up for the rest. proofs/Division.antt proves it.
use Rattle.std.specs.Prelude.{◌≡◌, ℕ, ◌+◌, ◌/◌, ◌≤◌, min}

-- the whole part of (n + 127) / 255
unfoldable pub div255 : ℕ → ℕ
div255 n = (n + 127) / 255

-- the usual trick; a shift by eight places is a division by 256
abbrev pub shifted : ℕ → ℕ
shifted n = (n + 128 + (n + 128) / 256) / 256

pub record Division : Type 0 where
  -- up to 65,662 it is the nearest whole number: so for 65,025, the greatest product of two bytes and the greatest that alpha mode 2 divides
  pub exact : (n : ℕ) → n ≤ 65662 → shifted n ≡ div255 n
  -- at the next sum it is one too small
  pub one_short : shifted 65663 + 1 ≡ div255 65663
  -- but from there on neither number is below 255
  pub past : (n : ℕ) → 65663 ≤ n → (255 ≤ shifted n) × (255 ≤ div255 n)
  -- so "the answer after holding at 255 is the same for every sum from 0 to 130,050"; it is for every sum
  pub held : (n : ℕ) → min 255 (shifted n) ≡ min 255 (div255 n)
