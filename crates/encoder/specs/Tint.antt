-- A tint laid over a rectangle (02, request 1): the task's fields, what is answered, and the buffer after it.
use Rattle.std.specs.Prelude.{ℕ, ◌*◌, cond, List, Float, Result, Ok, Err, ⊤}
use Rattle.score.specs.Coverage.{is_score, coverage_of}
use Rattle.pixel.specs.declared.colour.Colour.{Colour}
use Rattle.pixel.specs.declared.format.Format.TheVariants.{Argb8888}
use Rattle.pixel.specs.Formats.{layout_of}
use Rattle.pixel.specs.Colours.{packed}
use Rattle.division.specs.Division.{div255}
use Rattle.encoder.specs.declared.fields.SurfaceFields.{SurfaceFields}
use Rattle.encoder.specs.declared.fields.Fields.{Fields}
use Rattle.encoder.specs.Solid.{reset_alpha, solid_source}
use Rattle.encoder.specs.Forms.{first_form}
use Rattle.encoder.specs.Encoder as encoder
use Rattle.encoder.specs.declared.tint.Tint.{Tint}
use Rattle.encoder.specs.declared.EncodeError.{EncodeError}
use Rattle.encoder.specs.declared.tint.TintError.{TintError}
use Rattle.encoder.specs.declared.tint.TintError.TheVariants.{BadScore, Refused}

-- "alpha is the cover, each colour t of a given tint becomes near(t x cover)"
unfoldable pub tint_colour : Tint → ℕ → Colour
tint_colour tint coverage = record {
  alpha = coverage;
  red = div255 (tint.red * coverage);
  green = div255 (tint.green * coverage);
  blue = div255 (tint.blue * coverage);
}

-- "a colour-mode task", "SRC_OVER, blend on, source size and destination as output, all enabled, rest zero"; SRC_OVER is 1, 3
unfoldable pub tint_fields : Tint → ℕ → SurfaceFields → Fields
tint_fields tint coverage output = record {
  source = solid_source output.width output.height;
  destination = record { surface = output; alpha = reset_alpha; enable = 1 };
  output = output;
  colour = packed (layout_of Argb8888) (tint_colour tint coverage);
  blending = record { source = 1; destination = 3; on = 1; premultiplied = 0 };
}

abbrev pub fields_of : Float → Tint → SurfaceFields → Fields
fields_of score tint output = tint_fields tint (coverage_of score) output

-- the paper's number of each refusal, 0 without one
abbrev pub tint_refusal_of : Result ⊤ TintError → ℕ
tint_refusal_of (Ok _) = 0
-- NaN or outside 0 to 1
tint_refusal_of (Err BadScore) = 15
tint_refusal_of (Err (Refused error)) = encoder.encode_refusal_of (Err error)

-- what the encoder answers, of a tint
abbrev pub of_encoder : Result ⊤ EncodeError → Result ⊤ TintError
of_encoder (Ok _) = Ok tt
of_encoder (Err error) = Err (Refused error)

-- for a buffer of this length: 15, "before 24 and 12"
unfoldable pub answer_of : Float → Tint → SurfaceFields → ℕ → Result ⊤ TintError
answer_of score tint output size = cond (is_score score) (of_encoder (encoder.answer_of (first_form (fields_of score tint output)) size)) (Err BadScore)

-- a refusal changes nothing; else the first 80 bytes, and no others, are written
unfoldable pub buffer_after : Float → Tint → SurfaceFields → List ℕ → List ℕ
buffer_after score tint output buffer = cond (is_score score) (encoder.buffer_after (first_form (fields_of score tint output)) buffer) buffer
