-- Each field of a register's word is the field that was put there.
use mathlib.Core.Path.{◌≡◌}
use Prim.Native.Nat.{ℕ, ◌+◌, ◌*◌, ◌^◌, ◌<◌}
use native.Mathlib.Omega.{arith}
use Rattle.word.specs.Field.{field}
use Rattle.encoder.specs.declared.fields.SurfaceFields.{SurfaceFields}
use Rattle.encoder.specs.declared.fields.SourceFields.{SourceFields}
use Rattle.encoder.specs.declared.fields.DestinationFields.{DestinationFields}
use Rattle.encoder.specs.declared.fields.BlendingFields.{BlendingFields}
use Rattle.encoder.specs.Registers.{source_control, destination_control, blending_word}
use Rattle.encoder.proofs.Allowed.{SurfaceFits, SourceFits, DestinationFits, BlendingFits}

-- of the source control
module _ (s : SourceFields) (h : SourceFits s) where
  pub source_global : field 31 24 (source_control s) ≡ s.alpha.global
  unfolding source_control
  source_global = omega arith

  pub source-alpha_mode : field 23 22 (source_control s) ≡ s.alpha.mode
  unfolding source_control
  source-alpha_mode = omega arith

  pub source_unused : field 21 15 (source_control s) ≡ 0
  unfolding source_control
  source_unused = omega arith

  pub source-format : field 14 8 (source_control s) ≡ s.surface.format
  unfolding source_control
  source-format = omega arith

  pub source_vertical : field 7 7 (source_control s) ≡ s.transform.vertical
  unfolding source_control
  source_vertical = omega arith

  pub source_horizontal : field 6 6 (source_control s) ≡ s.transform.horizontal
  unfolding source_control
  source_horizontal = omega arith

  pub source_rotation : field 5 4 (source_control s) ≡ s.transform.rotation
  unfolding source_control
  source_rotation = omega arith

  pub source_mode : field 3 2 (source_control s) ≡ s.mode
  unfolding source_control
  source_mode = omega arith

  pub source_bit_1 : field 1 1 (source_control s) ≡ 0
  unfolding source_control
  source_bit_1 = omega arith

  pub source_enable : field 0 0 (source_control s) ≡ s.enable
  unfolding source_control
  source_enable = omega arith

-- of the destination control
module _ (d : DestinationFields) (h : DestinationFits d) where
  pub destination_global : field 31 24 (destination_control d) ≡ d.alpha.global
  unfolding destination_control
  destination_global = omega arith

  pub destination-alpha_mode : field 23 22 (destination_control d) ≡ d.alpha.mode
  unfolding destination_control
  destination-alpha_mode = omega arith

  pub destination_unused : field 21 15 (destination_control d) ≡ 0
  unfolding destination_control
  destination_unused = omega arith

  pub destination-format : field 14 8 (destination_control d) ≡ d.surface.format
  unfolding destination_control
  destination-format = omega arith

  pub destination_unused-low : field 7 1 (destination_control d) ≡ 0
  unfolding destination_control
  destination_unused-low = omega arith

  pub destination_enable : field 0 0 (destination_control d) ≡ d.enable
  unfolding destination_control
  destination_enable = omega arith

-- of the output control, a size and a stride
module _ (s : SurfaceFields) (h : SurfaceFits s) where
  pub output_unused : field 31 15 (s.format * 0x100) ≡ 0
  output_unused = omega arith

  pub output-format : field 14 8 (s.format * 0x100) ≡ s.format
  output-format = omega arith

  pub output_unused-low : field 7 0 (s.format * 0x100) ≡ 0
  output_unused-low = omega arith

  pub size_unused : field 31 29 (s.height * 0x10000 + s.width) ≡ 0
  size_unused = omega arith

  pub size_height : field 28 16 (s.height * 0x10000 + s.width) ≡ s.height
  size_height = omega arith

  pub size_unused-low : field 15 13 (s.height * 0x10000 + s.width) ≡ 0
  size_unused-low = omega arith

  pub size_width : field 12 0 (s.height * 0x10000 + s.width) ≡ s.width
  size_width = omega arith

  pub stride_unused : field 31 16 s.stride ≡ 0
  stride_unused = omega arith

  pub stride-stride : field 15 0 s.stride ≡ s.stride
  stride-stride = omega arith

-- of a step
pub step_unused : (word : ℕ) → word < 2 ^ 25 → field 31 25 word ≡ 0
step_unused word h = omega arith

-- of the blending word
module _ (b : BlendingFields) (h : BlendingFits b) where
  pub blending_unused : field 31 18 (blending_word b) ≡ 0
  unfolding blending_word
  blending_unused = omega arith

  pub blending_premultiplied : field 17 17 (blending_word b) ≡ b.premultiplied
  unfolding blending_word
  blending_premultiplied = omega arith

  pub blending_unused_mid : field 16 14 (blending_word b) ≡ 0
  unfolding blending_word
  blending_unused_mid = omega arith

  pub blending_source : field 13 11 (blending_word b) ≡ b.source
  unfolding blending_word
  blending_source = omega arith

  pub blending_destination : field 10 8 (blending_word b) ≡ b.destination
  unfolding blending_word
  blending_destination = omega arith

  pub blending_unused_low : field 7 1 (blending_word b) ≡ 0
  unfolding blending_word
  blending_unused_low = omega arith

  pub blending_on : field 0 0 (blending_word b) ≡ b.on
  unfolding blending_word
  blending_on = omega arith
