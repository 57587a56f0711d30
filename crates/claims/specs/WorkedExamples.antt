-- The twelve (01, "Twelve for the table"): what the definitions that the contracts cite make of the paper's numbers, beside what the paper says.
-- proofs/WorkedExamples.antt computes it.
use Rattle.std.specs.Prelude.{◌≡◌, List, [], ◌∷◌, ◌++◌, Bool, true, false, cond, ℕ, zero, suc, ◌+◌, ◌-◌, ◌*◌, get_or}
use Rattle.reset.specs.declared.ResetRule.TheVariants.{Unblended}
use Rattle.range.specs.declared.Range.{Range}
use Rattle.ring.specs.Segment.{segment}
use Rattle.pixel.specs.declared.colour.Colour.{Colour}
use Rattle.pixel.specs.declared.format.Format.TheVariants.{Argb8888, Rgb565}
use Rattle.pixel.specs.declared.blend.AlphaMode.TheVariants.{Mixed}
use Rattle.pixel.specs.declared.blend.BlendMode.TheVariants.{None, SrcOver, Add}
use Rattle.pixel.specs.Formats.{layout_of}
use Rattle.pixel.specs.Colours.{unpacked, packed}
use Rattle.pixel.specs.Alpha.{effective_alpha}
use Rattle.pixel.specs.Blending.{blended}
use Rattle.pixel.specs.Rules.{blend_mode_factors}
use Rattle.transform.specs.declared.Rotation.TheVariants.{Rotate90}
use Rattle.transform.specs.declared.Transform.{Transform}
use Rattle.transform.specs.declared.Size.{Size}
use Rattle.transform.specs.declared.Point.{Point}
use Rattle.transform.specs.Transform.{rotated_size, source_pixel}
use Rattle.surface.specs.Surface.{span}
use Rattle.register.specs.Bank.{reset_bank}
use Rattle.task_check.specs.declared.task.Bounds.{Bounds}
use Rattle.batch.specs.Batch.{DecoderState, between_tasks, in_group, group_of, decode_batch, verdict_of, status_word_of}

-- a row: what is computed, and what the paper says
infix 70 ◌gives◌
pub data Example : Type 0 where
  ◌gives◌ : (actual expected : List ℕ) → Example

unfoldable pub actual : List Example → List (List ℕ)
actual [] = []
actual ((c gives s) ∷ rows) = c ∷ actual rows

unfoldable pub expected : List Example → List (List ℕ)
expected [] = []
expected ((c gives s) ∷ rows) = s ∷ expected rows

-- ---- numbers of what is computed

-- a header's offset, its length in bytes, and 1 if it ends the task
abbrev pub group : DecoderState → List ℕ
group between_tasks = []
group (in_group left offset ends head) = offset ∷ 4 * left ∷ cond ends 1 0 ∷ []

-- a run's first byte and its last
abbrev pub first_and_last : Range → List ℕ
first_and_last r = r.start ∷ (r.end - 1) ∷ []

-- n bytes that count up
abbrev pub counting : (from n : ℕ) → List ℕ
counting from zero = []
counting from (suc n) = from ∷ counting (suc from) n

-- a colour whose red, green and blue are alike; and one of them, with its alpha
abbrev pub grey : (value alpha : ℕ) → Colour
grey value alpha = record { alpha = alpha; red = value; green = value; blue = value }

abbrev pub shade : Colour → List ℕ
shade c = c.red ∷ c.alpha ∷ []

-- a row of two pixels turned by a quarter, first flipped or not: the size of what comes out, and the pixels down its first column
abbrev pub rotated_row : (flipped : Bool) → (p q : ℕ) → List ℕ
rotated_row flipped p q =
    let size : Size = record { width = 2; height = 1 } in
    let setting : Transform = record { flip = record { horizontal = flipped; vertical = false }; rotation = Rotate90 } in
    let out : Size = rotated_size Rotate90 size in
    let from : ℕ → Point = λ y. source_pixel setting size (record { x = 0; y = y }) in
    let at : ℕ → ℕ = λ y. get_or (p ∷ q ∷ []) ((from y).y * 2 + (from y).x) 0 in
    out.width ∷ out.height ∷ at 0 ∷ at 1 ∷ []

-- a task: the words that 01 works out, a rectangle of 2 by 1 in one colour at the address
abbrev pub task : (address : ℕ) → List ℕ
task address =
    0x00100014 ∷ 0x00000005 ∷ 0x00010002 ∷ 0x00000000 ∷ 0x80FF0000 ∷ 0x00000000
    ∷ 0x0050000C ∷ 0x00000000 ∷ 0x00000000 ∷ 0x00000000
    ∷ 0x00600004 ∷ 0x00000000 ∷ 0x00900004 ∷ 0x00001300
    ∷ 0x0100000C ∷ 0x00000000 ∷ 0x00010002 ∷ 0x00000008
    ∷ 0x01100005 ∷ address ∷ []

-- of the first client of 01's replay program
abbrev pub bounds : Bounds
bounds = record { window = record { start = 16384; end = 28672 }; common_length = 16384 }

-- ---- the table; p and q are any two pixels

abbrev pub examples : (p q : ℕ) → List Example
examples p q =
    -- "H1 0x0010000C: offset 16, length 12."
    group (group_of 0 0x0010000C) gives (16 ∷ 12 ∷ 0 ∷ [])
    -- "H2 0x00300011: offset 48, length 16, end."
    ∷ group (group_of 0 0x00300011) gives (48 ∷ 16 ∷ 1 ∷ [])
    -- "R1 ring 128, offset 120, length 24: bytes 120 to 127, 0 to 15."
    ∷ segment (counting 0 128) 120 24 gives (counting 120 8 ++ counting 0 16)
    -- "S1 span of 4 by 3 ARGB8888 at 16, stride 24: 16 to 79."
    ∷ first_and_last (span (record { address = 16; stride = 24; width = 4; height = 3; format = Argb8888 })) gives (16 ∷ 79 ∷ [])
    -- "B1 SRC_OVER, s 200, sa 128, d 100, da 255: 250, alpha 255."
    ∷ shade (blended (blend_mode_factors SrcOver) (grey 200 128) (grey 100 255)) gives (250 ∷ 255 ∷ [])
    -- "B2 the same under NONE: 150, alpha 191."
    ∷ shade (blended (blend_mode_factors None) (grey 200 128) (grey 100 255)) gives (150 ∷ 191 ∷ [])
    -- "B3 ADD 200, 100: 255."
    ∷ ((blended (blend_mode_factors Add) (grey 200 128) (grey 100 255)).red ∷ []) gives (255 ∷ [])
    -- "M1 mixed 128, 64: 32."
    ∷ (effective_alpha Mixed 64 128 ∷ []) gives (32 ∷ [])
    -- "P1 565 word 0x1234: 16, 69, 165, and back."
    ∷ (let c : Colour = unpacked (layout_of Rgb565) 0x1234 in c.red ∷ c.green ∷ c.blue ∷ packed (layout_of Rgb565) c ∷ []) gives (16 ∷ 69 ∷ 165 ∷ 0x1234 ∷ [])
    -- "F1 row p q, turn 1: column p, q."
    ∷ rotated_row false p q gives (1 ∷ 2 ∷ p ∷ q ∷ [])
    -- "F2 with H flip: q, p."
    ∷ rotated_row true p q gives (1 ∷ 2 ∷ q ∷ p ∷ [])
    -- "T1 three tasks: 0x00030001."
    ∷ (status_word_of (verdict_of (decode_batch bounds (reset_bank Unblended) (task 16384 ++ task 16384 ++ task 16384))) ∷ []) gives (0x00030001 ∷ [])
    ∷ []

-- the one statement
abbrev pub WorkedExamples : Type 0
WorkedExamples = (p q : ℕ) → actual (examples p q) ≡ expected (examples p q)
