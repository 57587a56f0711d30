-- The table of writable registers (01, "Groups and registers"; 02, request 3), row by row: the offsets of a row, and the words that its
-- registers take. Names as in document 002.
use Rattle.std.specs.Prelude.{ℕ, Bool, true, cond, ◌&&◌, ◌||◌, eqb, Option, Some, None}
use Rattle.word.specs.Field.{field}
use Rattle.pixel.specs.Formats.{is_format}
use Rattle.pixel.specs.Alpha.{is_alpha_mode}
use Rattle.pixel.specs.Blending.{is_factor}
use Rattle.register.specs.declared.table.RegisterKind.{RegisterKind}
use Rattle.register.specs.declared.table.RegisterKind.TheVariants.{SourceControl, DestinationControl, OutputControl, Size, Stride, Step, Blending, FullWord}

-- the row of the register at an offset, none where no writable register stands
unfoldable pub register_kind_of : ℕ → Option RegisterKind
register_kind_of offset =
    -- SRC_SURFACE_CTRL
    cond (eqb offset 0x010) (Some SourceControl)
    -- DST_SURFACE_CTRL
    (cond (eqb offset 0x050) (Some DestinationControl)
    -- SRC_SURFACE_INPUT_SIZE, DST_SURFACE_INPUT_SIZE, OUTPUT_SIZE
    (cond (eqb offset 0x014 || eqb offset 0x054 || eqb offset 0x104) (Some Size)
    -- SRC_SURFACE_STRIDE, DST_SURFACE_STRIDE, OUTPUT_STRIDE
    (cond (eqb offset 0x018 || eqb offset 0x058 || eqb offset 0x108) (Some Stride)
    -- SRC_SURFACE_FILL_COLOR; SRC_SURFACE_ADDR0, DST_SURFACE_ADDR0, OUTPUT_ADDR0
    (cond (eqb offset 0x01C || eqb offset 0x020 || eqb offset 0x060 || eqb offset 0x110) (Some FullWord)
    -- the steps of A, R, G and B
    (cond (eqb offset 0x030 || eqb offset 0x034 || eqb offset 0x038 || eqb offset 0x03C) (Some Step)
    -- BLENDING_CTRL
    (cond (eqb offset 0x090) (Some Blending)
    -- OUTPUT_CTRL
    (cond (eqb offset 0x100) (Some OutputControl)
    None)))))))

-- 31:24 global alpha, 23:22 alpha mode, 14:8 format, 7 and 6 flips, 5:4 quarter turns, 3:2 source mode, 0 enable; the others zero
abbrev pub source_control_accepts : ℕ → Bool
source_control_accepts word =
    is_alpha_mode (field 23 22 word)
    && eqb (field 21 15 word) 0
    && is_format (field 14 8 word)
    && eqb (field 1 1 word) 0

-- 31:24 global alpha, 23:22 alpha mode, 14:8 format, 0 enable
abbrev pub destination_control_accepts : ℕ → Bool
destination_control_accepts word =
    is_alpha_mode (field 23 22 word)
    && eqb (field 21 15 word) 0
    && is_format (field 14 8 word)
    && eqb (field 7 1 word) 0

-- 14:8 format
abbrev pub output_control_accepts : ℕ → Bool
output_control_accepts word = eqb (field 31 15 word) 0 && is_format (field 14 8 word) && eqb (field 7 0 word) 0

-- 28:16 height, 12:0 width
abbrev pub size_accepts : ℕ → Bool
size_accepts word = eqb (field 31 29 word) 0 && eqb (field 15 13 word) 0

-- 15:0 stride
abbrev pub stride_accepts : ℕ → Bool
stride_accepts word = eqb (field 31 16 word) 0

-- 24:0 a step; bits 31:25 zero also below zero
abbrev pub step_accepts : ℕ → Bool
step_accepts word = eqb (field 31 25 word) 0

-- 17 premultiplied (02, request 12), 13:11 source factor, 10:8 destination factor, 0 blend on
abbrev pub blending_accepts : ℕ → Bool
blending_accepts word =
    eqb (field 31 18 word) 0
    && eqb (field 16 14 word) 0
    && is_factor (field 13 11 word)
    && is_factor (field 10 8 word)
    && eqb (field 7 1 word) 0

-- a register of a row takes a word
abbrev pub accepts_word : RegisterKind → ℕ → Bool
accepts_word SourceControl word = source_control_accepts word
accepts_word DestinationControl word = destination_control_accepts word
accepts_word OutputControl word = output_control_accepts word
accepts_word Size word = size_accepts word
accepts_word Stride word = stride_accepts word
accepts_word Step word = step_accepts word
accepts_word Blending word = blending_accepts word
accepts_word FullWord word = true
