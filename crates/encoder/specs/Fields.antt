-- Which fields the registers' rules allow (01, "Groups and registers"): each fits its bits, and a code is one. A side of 0, or a
-- stride that no task may have, is allowed: that is judged of a task, not of a register.
use Rattle.std.specs.Prelude.{ℕ, ◌^◌, Bool, ◌&&◌, ltb}
use Rattle.pixel.specs.Formats.{is_format}
use Rattle.pixel.specs.Alpha.{is_alpha_mode}
use Rattle.pixel.specs.Blending.{is_factor}
use Rattle.pixel.specs.declared.gradient.Steps.{Steps}
use Rattle.encoder.specs.declared.fields.SurfaceFields.{SurfaceFields}
use Rattle.encoder.specs.declared.fields.AlphaFields.{AlphaFields}
use Rattle.encoder.specs.declared.fields.TransformFields.{TransformFields}
use Rattle.encoder.specs.declared.fields.SourceFields.{SourceFields}
use Rattle.encoder.specs.declared.fields.DestinationFields.{DestinationFields}
use Rattle.encoder.specs.declared.fields.BlendingFields.{BlendingFields}
use Rattle.encoder.specs.declared.fields.Fields.{Fields}

-- a number fits in so many bits
abbrev pub fits_in : ℕ → ℕ → Bool
fits_in bits n = ltb n (2 ^ bits)

-- 12:0 width, 28:16 height, 15:0 stride, 14:8 format; an address has all bits
unfoldable pub surface_allowed : SurfaceFields → Bool
surface_allowed s = fits_in 13 s.width && fits_in 13 s.height && fits_in 16 s.stride && is_format s.format

-- 23:22 alpha mode, 31:24 global alpha
unfoldable pub alpha_allowed : AlphaFields → Bool
alpha_allowed a = is_alpha_mode a.mode && fits_in 8 a.global

-- 6 H flip, 7 V flip, 5:4 quarter turns
unfoldable pub transform_allowed : TransformFields → Bool
transform_allowed t = fits_in 1 t.horizontal && fits_in 1 t.vertical && fits_in 2 t.rotation

-- 3:2 source mode, 0 enable
unfoldable pub source_allowed : SourceFields → Bool
source_allowed s =
    surface_allowed s.surface
    && alpha_allowed s.alpha
    && transform_allowed s.transform
    && fits_in 2 s.mode
    && fits_in 1 s.enable

-- 0 enable
unfoldable pub destination_allowed : DestinationFields → Bool
destination_allowed d = surface_allowed d.surface && alpha_allowed d.alpha && fits_in 1 d.enable

-- 13:11 source factor, 10:8 destination factor, 0 blend on, 17 premultiplied (02, request 12)
unfoldable pub blending_allowed : BlendingFields → Bool
blending_allowed b = is_factor b.source && is_factor b.destination && fits_in 1 b.on && fits_in 1 b.premultiplied

-- 24:0 of each step, as raw words (02, request 3)
unfoldable pub steps_allowed : Steps → Bool
steps_allowed s = fits_in 25 s.alpha && fits_in 25 s.red && fits_in 25 s.green && fits_in 25 s.blue

-- all of a task's fields; a colour has all bits
unfoldable pub allowed : Fields → Bool
allowed f = source_allowed f.source && destination_allowed f.destination && surface_allowed f.output && blending_allowed f.blending
