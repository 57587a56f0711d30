-- The worked words (01, "Writer and replay"), the same task in the second form (02, request 3), and fields at the edges of what the registers' rules allow.
use mathlib.Core.Path.{◌≡◌, refl}
use mathlib.Core.List.{[], ◌∷◌}
use Prim.Native.Nat.{ℕ}
use Rattle.reset.specs.declared.ResetRule.{ResetRule}
use Rattle.reset.specs.declared.ResetRule.TheVariants.{Unblended, SrcOver}
use Rattle.word.specs.Word.{byte_of, le_bytes, words_bytes}
use Rattle.pixel.specs.declared.gradient.Steps.{Steps}
use Rattle.register.specs.Bank.{reset_bank, reset_steps}
use Rattle.encoder.specs.declared.fields.Fields.{Fields}
use Rattle.encoder.specs.Fields.{surface_allowed, alpha_allowed, transform_allowed, source_allowed, destination_allowed, blending_allowed, steps_allowed, allowed}
use Rattle.encoder.specs.Registers.{surface_registers, source_control, destination_control, blending_word, bank_of}
use Rattle.encoder.specs.Words.{task_words, shaded_words}
use Rattle.encoder.specs.Forms.{first_form, second_form, form_words}
use Rattle.encoder.specs.Encoder.{encode_refusal_of, answer_of, task_bytes}
use Rattle.encoder.specs.Solid.{reset_fields, solid_fields}

-- colour 0x80FF0000, 2 by 1, stride 8, at 16384, rest at reset; "the worked words keep the old one" (02, request 2)
abbrev pub worked : Fields
worked = solid_fields Unblended 0x80FF0000 2 1 8 16384

pub worked-words : form_words (first_form worked)
    ≡ 0x00100014 ∷ 0x00000005 ∷ 0x00010002 ∷ 0x00000000 ∷ 0x80FF0000 ∷ 0x00000000
    ∷ 0x0050000C ∷ 0x00000000 ∷ 0x00000000 ∷ 0x00000000
    ∷ 0x00600004 ∷ 0x00000000
    ∷ 0x00900004 ∷ 0x00001300
    ∷ 0x0100000C ∷ 0x00000000 ∷ 0x00010002 ∷ 0x00000008
    ∷ 0x01100005 ∷ 0x00004000 ∷ []
unfolding task_words bank_of surface_registers source_control destination_control blending_word
worked-words = refl

pub worked-bytes : task_bytes (first_form worked)
    ≡ 0x14 ∷ 0x00 ∷ 0x10 ∷ 0x00 ∷ 0x05 ∷ 0x00 ∷ 0x00 ∷ 0x00 ∷ 0x02 ∷ 0x00 ∷ 0x01 ∷ 0x00 ∷ 0x00 ∷ 0x00 ∷ 0x00 ∷ 0x00
    ∷ 0x00 ∷ 0x00 ∷ 0xFF ∷ 0x80 ∷ 0x00 ∷ 0x00 ∷ 0x00 ∷ 0x00 ∷ 0x0C ∷ 0x00 ∷ 0x50 ∷ 0x00 ∷ 0x00 ∷ 0x00 ∷ 0x00 ∷ 0x00
    ∷ 0x00 ∷ 0x00 ∷ 0x00 ∷ 0x00 ∷ 0x00 ∷ 0x00 ∷ 0x00 ∷ 0x00 ∷ 0x04 ∷ 0x00 ∷ 0x60 ∷ 0x00 ∷ 0x00 ∷ 0x00 ∷ 0x00 ∷ 0x00
    ∷ 0x04 ∷ 0x00 ∷ 0x90 ∷ 0x00 ∷ 0x00 ∷ 0x13 ∷ 0x00 ∷ 0x00 ∷ 0x0C ∷ 0x00 ∷ 0x00 ∷ 0x01 ∷ 0x00 ∷ 0x00 ∷ 0x00 ∷ 0x00
    ∷ 0x02 ∷ 0x00 ∷ 0x01 ∷ 0x00 ∷ 0x08 ∷ 0x00 ∷ 0x00 ∷ 0x00 ∷ 0x05 ∷ 0x00 ∷ 0x10 ∷ 0x01 ∷ 0x00 ∷ 0x40 ∷ 0x00 ∷ 0x00 ∷ []
unfolding task_bytes words_bytes le_bytes byte_of task_words bank_of surface_registers source_control destination_control blending_word
worked-bytes = refl

-- the fields of a bank at reset are those of the bank at reset
pub reset_registers : (rule : ResetRule) → bank_of reset_steps (reset_fields rule) ≡ reset_bank rule
unfolding bank_of surface_registers source_control destination_control blending_word
reset_registers Unblended = refl
reset_registers SrcOver = refl

-- written into 80 bytes, not into 79; a width of 8,192 or a stride of 65,536 is refused first, a side of 0 or a stride of 9 is written
abbrev number : Fields → ℕ → ℕ
number f size = encode_refusal_of (answer_of (first_form f) size)

pub edges :
    number worked 80 ∷ number worked 79
    ∷ number (solid_fields Unblended 0 8192 1 8 0) 79 ∷ number (solid_fields Unblended 0 1 8192 8 0) 80 ∷ number (solid_fields Unblended 0 1 1 65536 0) 0
    ∷ number (solid_fields Unblended 0 0 8191 65535 0) 80 ∷ number (solid_fields Unblended 0 8191 0 9 0) 80 ∷ []
    ≡ 0 ∷ 12 ∷ 24 ∷ 24 ∷ 24 ∷ 0 ∷ 0 ∷ []
unfolding answer_of allowed source_allowed destination_allowed surface_allowed alpha_allowed transform_allowed blending_allowed
edges = refl

-- the worked task in the second form, its steps the least and the greatest, 1/65,536 down and up; the steps' header stands at byte 24
abbrev pub steps : Steps
steps = record { alpha = 0x1000000; red = 0x0FFFFFF; green = 0x1FFFFFF; blue = 1 }

pub shaded_words_lem : form_words (second_form worked steps)
    ≡ 0x00100014 ∷ 0x00000005 ∷ 0x00010002 ∷ 0x00000000 ∷ 0x80FF0000 ∷ 0x00000000
    ∷ 0x00300010 ∷ 0x01000000 ∷ 0x00FFFFFF ∷ 0x01FFFFFF ∷ 0x00000001
    ∷ 0x0050000C ∷ 0x00000000 ∷ 0x00000000 ∷ 0x00000000
    ∷ 0x00600004 ∷ 0x00000000
    ∷ 0x00900004 ∷ 0x00001300
    ∷ 0x0100000C ∷ 0x00000000 ∷ 0x00010002 ∷ 0x00000008
    ∷ 0x01100005 ∷ 0x00004000 ∷ []
unfolding shaded_words bank_of surface_registers source_control destination_control blending_word
shaded_words_lem = refl

-- written into 100 bytes, not into 99; a step of more than 25 bits, as a number below zero that was extended, is refused first
abbrev shaded_number : Steps → ℕ → ℕ
shaded_number s size = encode_refusal_of (answer_of (second_form worked s) size)

pub shaded_edges :
    shaded_number steps 100 ∷ shaded_number steps 99
    ∷ shaded_number (record { alpha = 0; red = 0; green = 0; blue = 0x2000000 }) 100 ∷ shaded_number (record { alpha = 0xFFFFFFFF; red = 0; green = 0; blue = 0 }) 0
    ∷ []
    ≡ 0 ∷ 12 ∷ 24 ∷ 24 ∷ []
unfolding answer_of allowed steps_allowed source_allowed destination_allowed surface_allowed alpha_allowed transform_allowed blending_allowed
shaded_edges = refl
