-- A colour that was delivered multiplied by its alpha, divided by it again (02, request 12: "Premultiplied scans").
use Rattle.std.specs.Prelude.{◌≡◌, cond, List, ℕ, ◌+◌, ◌*◌, ◌/◌, ◌<◌, min, eqb, length, get_or}
use Rattle.pixel.specs.declared.colour.Colour.{Colour}

-- T(a): 0 at 0, else the whole part of 16,711,680 / a
unfoldable pub reciprocal_of : ℕ → ℕ
reciprocal_of a = cond (eqb a 0) 0 (16711680 / a)

-- Internal: a list is that of the 256 reciprocals
abbrev pub Reciprocals : List ℕ → Type 0
Reciprocals table = (length table ≡ 256) × ((a : ℕ) → a < 256 → get_or table a 0 ≡ reciprocal_of a)

-- colour c of a pixel with alpha a: the lesser of 255 and the whole part of (c x T(a) + 32,768) / 65,536
unfoldable pub unpremultiplied_channel : ℕ → ℕ → ℕ
unpremultiplied_channel a c = min 255 ((c * reciprocal_of a + 32768) / 65536)

-- red, green and blue by the pixel's alpha, which stays
abbrev pub unpremultiplied : Colour → Colour
unpremultiplied c = record {
  alpha = c.alpha;
  red = unpremultiplied_channel c.alpha c.red;
  green = unpremultiplied_channel c.alpha c.green;
  blue = unpremultiplied_channel c.alpha c.blue;
}
