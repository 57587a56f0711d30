-- The words of a tint, and refusals in their order.
use mathlib.Core.Path.{◌≡◌, refl}
use mathlib.Core.List.{[], ◌∷◌}
use Prim.Native.Nat.{ℕ}
use lib.Ieee.{Float, nan, binary32, of_bits, mul, le, of_int}
use Rattle.score.specs.Coverage.{is_score, product, not_above, greatest_to, coverage_of}
use Rattle.division.specs.Division.{div255}
use Rattle.pixel.specs.Colours.{packed, narrowed}
use Rattle.encoder.specs.declared.fields.SurfaceFields.{SurfaceFields}
use Rattle.encoder.specs.Fields.{surface_allowed, alpha_allowed, transform_allowed, source_allowed, destination_allowed, blending_allowed, allowed}
use Rattle.encoder.specs.Registers.{surface_registers, source_control, destination_control, blending_word, bank_of}
use Rattle.encoder.specs.Words.{task_words}
use Rattle.encoder.specs.Forms.{first_form, form_words}
use Rattle.encoder.specs.Encoder as encoder
use Rattle.encoder.specs.declared.tint.Tint.{Tint}
use Rattle.encoder.specs.Tint.{tint_colour, tint_fields, fields_of, tint_refusal_of, answer_of}

abbrev half : Float
half = of_bits binary32 0x3F000000

abbrev orange : Tint
orange = record { red = 255; green = 128; blue = 0 }

abbrev rectangle : ℕ → ℕ → SurfaceFields
rectangle width format = record { width = width; height = 1; stride = 8; address = 16384; format = format }

-- score 0.5, so coverage 128, over 2 by 1 pixels at 16384
pub worked-words : form_words (first_form (fields_of half orange (rectangle 2 0)))
    ≡ 0x00100014 ∷ 0x00000005 ∷ 0x00010002 ∷ 0x00000000 ∷ 0x80804000 ∷ 0x00000000
    ∷ 0x0050000C ∷ 0x00000001 ∷ 0x00010002 ∷ 0x00000008
    ∷ 0x00600004 ∷ 0x00004000
    ∷ 0x00900004 ∷ 0x00000B01
    ∷ 0x0100000C ∷ 0x00000000 ∷ 0x00010002 ∷ 0x00000008
    ∷ 0x01100005 ∷ 0x00004000 ∷ []
unfolding task_words bank_of surface_registers source_control destination_control blending_word tint_fields tint_colour div255 packed narrowed coverage_of greatest_to not_above product mul le of_int of_bits
worked-words = refl

abbrev number : Float → SurfaceFields → ℕ → ℕ
number score output size = tint_refusal_of (answer_of score orange output size)

-- 15 before 24, 24 before 12; a side of 0 is written
pub edges :
    number nan (rectangle 8192 99) 3 ∷ number half (rectangle 8192 0) 3 ∷ number half (rectangle 2 99) 80
    ∷ number half (rectangle 8191 0) 79 ∷ number half (rectangle 0 14) 80 ∷ []
    ≡ 15 ∷ 24 ∷ 24 ∷ 12 ∷ 0 ∷ []
unfolding answer_of is_score le of_bits encoder.answer_of allowed source_allowed destination_allowed surface_allowed alpha_allowed transform_allowed blending_allowed tint_fields
edges = refl
