-- A colour that changes by even steps along a line of pixels (02, request 3): "channel i places along is the start colour plus i steps, rounded
-- downward also below zero, then held to 0..255".
use Rattle.std.specs.Prelude.{ℕ, ◌*◌, ◌/◌, min, cond, ltb, ℤ, pos, negsuc, ◌+ℤ◌, ◌-ℤ◌, ◌*ℤ◌}
use Rattle.pixel.specs.declared.colour.Colour.{Colour}
use Rattle.pixel.specs.declared.gradient.Steps.{Steps}

-- the number that a step's word stands for, in parts of 65,536: signed, 25 bits in two's complement
abbrev pub signed_step : ℕ → ℤ
signed_step word = cond (ltb word 0x1000000) (pos word) (pos word -ℤ pos 0x2000000)

-- the greatest whole number not above v / 65,536, below zero too (negsuc n is -(n + 1))
abbrev pub rounded_down : ℤ → ℤ
rounded_down (pos n) = pos (n / 65536)
rounded_down (negsuc n) = negsuc (n / 65536)

-- held to 0..255
abbrev pub held : ℤ → ℕ
held (pos n) = min n 255
held (negsuc n) = 0

-- a channel i places along: one exact sum, rounded once, held once
unfoldable pub gradient_channel : ℕ → ℕ → ℕ → ℕ
gradient_channel start step i = held (rounded_down (pos (start * 65536) +ℤ signed_step step *ℤ pos i))

-- the colour i places along: each channel has its own step, alpha too
unfoldable pub gradient_colour : Colour → Steps → ℕ → Colour
gradient_colour start steps i = record {
  alpha = gradient_channel start.alpha steps.alpha i;
  red = gradient_channel start.red steps.red i;
  green = gradient_channel start.green steps.green i;
  blue = gradient_channel start.blue steps.blue i;
}
