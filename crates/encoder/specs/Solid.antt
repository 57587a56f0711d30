-- A rectangle of one colour, all else at reset (01, "Writer and replay"). Internal, except what tints use: `reset_alpha`, `reset_transform`,
-- `solid_source`.
use Rattle.std.specs.Prelude.{ℕ}
use Rattle.reset.specs.declared.ResetRule.{ResetRule}
use Rattle.reset.specs.declared.ResetRule.TheVariants.{Unblended, SrcOver}
use Rattle.encoder.specs.declared.fields.SurfaceFields.{SurfaceFields}
use Rattle.encoder.specs.declared.fields.AlphaFields.{AlphaFields}
use Rattle.encoder.specs.declared.fields.TransformFields.{TransformFields}
use Rattle.encoder.specs.declared.fields.SourceFields.{SourceFields}
use Rattle.encoder.specs.declared.fields.DestinationFields.{DestinationFields}
use Rattle.encoder.specs.declared.fields.BlendingFields.{BlendingFields}
use Rattle.encoder.specs.declared.fields.Fields.{Fields}

-- ---- the fields of a bank at reset: all 0, but for blending

abbrev pub reset_surface_fields : SurfaceFields
reset_surface_fields = record { width = 0; height = 0; stride = 0; address = 0; format = 0 }

abbrev pub reset_alpha : AlphaFields
reset_alpha = record { mode = 0; global = 0 }

abbrev pub reset_transform : TransformFields
reset_transform = record { horizontal = 0; vertical = 0; rotation = 0 }

abbrev pub reset_source : SourceFields
reset_source = record { surface = reset_surface_fields; alpha = reset_alpha; transform = reset_transform; mode = 0; enable = 0 }

abbrev pub reset_destination : DestinationFields
reset_destination = record { surface = reset_surface_fields; alpha = reset_alpha; enable = 0 }

-- by the reset rule (02, request 2: "the writer's 'rest at reset' takes the choice too"): NONE and off, or SRC_OVER and on
abbrev pub reset_blending : ResetRule → BlendingFields
reset_blending Unblended = record { source = 2; destination = 3; on = 0; premultiplied = 0 }
reset_blending SrcOver = record { source = 1; destination = 3; on = 1; premultiplied = 0 }

abbrev pub reset_fields : ResetRule → Fields
reset_fields rule = record { source = reset_source; destination = reset_destination; output = reset_surface_fields; colour = 0; blending = reset_blending rule }

-- ---- a solid rectangle

-- an enabled source of that size, in colour mode
abbrev pub solid_source : ℕ → ℕ → SourceFields
solid_source width height = record {
  surface = record { width = width; height = height; stride = 0; address = 0; format = 0 };
  alpha = reset_alpha;
  transform = reset_transform;
  mode = 1;
  enable = 1;
}

abbrev pub solid_fields : ResetRule → ℕ → ℕ → ℕ → ℕ → ℕ → Fields
solid_fields rule colour width height stride address = record {
  source = solid_source width height;
  destination = reset_destination;
  output = record { width = width; height = height; stride = stride; address = address; format = 0 };
  colour = colour;
  blending = reset_blending rule;
}
