-- The worked step (02, request 3), and steps at the edges: a half, the greatest and the least, and a sum below zero.
use mathlib.Core.Path.{◌≡◌, refl}
use mathlib.Core.List.{[], ◌∷◌}
use Rattle.pixel.specs.Gradient.{gradient_channel}

-- "a step of minus 1/65,536 takes a start of 10 to 9 at place 1"; a half moves every second place, and its fractions are not lost on the way
pub worked :
    gradient_channel 10 0x1FFFFFF 0 ∷ gradient_channel 10 0x1FFFFFF 1 ∷ gradient_channel 0 0x1FFFFFF 1
    ∷ gradient_channel 10 0x8000 1 ∷ gradient_channel 10 0x8000 2 ∷ gradient_channel 10 0x1FF8000 1 ∷ gradient_channel 10 0x1FF8000 3
    ∷ gradient_channel 0 0x0FFFFFF 1 ∷ gradient_channel 255 0x1000000 1 ∷ gradient_channel 128 0x1000000 4095 ∷ gradient_channel 128 0x0FFFFFF 4095 ∷ []
    ≡ 10 ∷ 9 ∷ 0 ∷ 10 ∷ 11 ∷ 9 ∷ 8 ∷ 255 ∷ 0 ∷ 0 ∷ 255 ∷ []
unfolding gradient_channel
worked = refl
