-- Stored pixels and colours (01, "Pixels"). A pixel is stored low byte first as one number, which holds from its lowest bit up
-- blue, green, red and alpha, each as wide as the format says: so ARGB8888 lies in memory as B, G, R, A. A colour word
-- (register 0x01C) is A, R, G, B from bit 31 down, and so an ARGB8888 pixel.
use Rattle.std.specs.Prelude.{ℕ, ◌+◌, ◌-◌, ◌*◌, ◌/◌, ◌%◌, ◌^◌, cond, eqb}
use Rattle.pixel.specs.declared.colour.Colour.{Colour}
use Rattle.pixel.specs.declared.format.Layout.{Layout}

-- a channel of `width` bits made eight bits wide: its bits, then again its highest. For 5 bits c * 8 + c / 4, for 6 bits
-- c * 4 + c / 16, for 8 bits the channel itself
unfoldable pub widened : ℕ → ℕ → ℕ
widened width c = c * 2 ^ (8 - width) + c / 2 ^ (2 * width - 8)

-- a channel of eight bits made `width` bits wide: its low bits are dropped
unfoldable pub narrowed : ℕ → ℕ → ℕ
narrowed width c = c / 2 ^ (8 - width)

-- the channel of `width` bits above the lowest `low` bits of a stored pixel
abbrev pub channel : ℕ → ℕ → ℕ → ℕ
channel width low pixel = widened width (pixel / 2 ^ low % 2 ^ width)

-- the colour of a stored pixel; alpha is 255 where it is absent
unfoldable pub unpacked : Layout → ℕ → Colour
unpacked l pixel = record {
  alpha = cond (eqb l.alpha 0) 255 (channel l.alpha (l.red + l.green + l.blue) pixel);
  red = channel l.red (l.green + l.blue) pixel;
  green = channel l.green l.blue pixel;
  blue = channel l.blue 0 pixel;
}

-- a colour as a stored pixel
unfoldable pub packed : Layout → Colour → ℕ
packed l c =
    narrowed l.alpha c.alpha * 2 ^ (l.red + l.green + l.blue)
    + narrowed l.red c.red * 2 ^ (l.green + l.blue)
    + narrowed l.green c.green * 2 ^ l.blue
    + narrowed l.blue c.blue
