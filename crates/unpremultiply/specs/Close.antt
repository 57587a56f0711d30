-- How near the division by the table comes (02, request 12). proofs/Close.antt proves it.
use Rattle.std.specs.Prelude.{◌≡◌, ℕ, ◌+◌, ◌*◌, ◌/◌, ◌≤◌, ◌<◌}
use Rattle.unpremultiply.specs.Unpremultiply.{reciprocal_of, unpremultiplied_channel}

-- Of every alpha but 0, and every colour that it can have been multiplied to.
pub record Close (a c : ℕ) : Type 0 where
  -- "for 0 < a and c at most a the new colour times a differs from 255 x c by less than a"
  pub not_above : unpremultiplied_channel a c * a < 255 * c + a
  pub not_below : 255 * c < unpremultiplied_channel a c * a + a
  -- such a colour is never held at 255
  pub not_held : unpremultiplied_channel a c ≡ (c * reciprocal_of a + 32768) / 65536

pub record DivisionByAlpha : Type 0 where
  pub close : (a c : ℕ) → 0 < a → a < 256 → c ≤ a → Close a c
  -- "T(128) is 130,560; c 64 at a 128 gives 128"
  pub entry : reciprocal_of 128 ≡ 130560
  pub worked : unpremultiplied_channel 128 64 ≡ 128
  -- without alpha no colour is left, and a colour of alpha 255 stays
  pub clear : (c : ℕ) → unpremultiplied_channel 0 c ≡ 0
  pub opaque : (c : ℕ) → c < 256 → unpremultiplied_channel 255 c ≡ c
