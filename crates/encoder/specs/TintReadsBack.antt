-- "Reading it back gives exactly these fields" (02, request 1): from any bank on, so whatever 0x090 was reset to, and within any bounds. It is of
-- the first form: the steps (02, request 3) stay what they were, and colour mode has no use for them.
-- proofs/tint/ReadsBack.antt proves it out of the encoder's own round trip.
use Rattle.std.specs.Prelude.{◌≡◌, true, false, List, [], ◌∷◌, ℕ, ◌^◌, ◌<◌, length, take, Float, Ok}
use Rattle.word.specs.Word.{words}
use Rattle.pixel.specs.declared.format.Format.TheVariants.{Argb8888}
use Rattle.pixel.specs.declared.blend.AlphaMode.TheVariants.{Pixel}
use Rattle.pixel.specs.declared.blend.BlendMode.TheVariants.{SrcOver}
use Rattle.pixel.specs.Rules.{blend_mode_factors}
use Rattle.transform.specs.declared.Rotation.TheVariants.{Rotate0}
use Rattle.pixel.specs.declared.gradient.Steps.{Steps}
use Rattle.register.specs.declared.bank.Bank.{Bank}
use Rattle.register.specs.declared.task.Alpha.{Alpha}
use Rattle.register.specs.declared.task.Source.{Source}
use Rattle.register.specs.declared.task.SourceMode.TheVariants.{Colour}
use Rattle.register.specs.declared.task.Task.{Task}
use Rattle.task_check.specs.declared.task.Bounds.{Bounds}
use Rattle.batch.specs.Batch.{decode_batch}
use Rattle.batch.specs.Marks.{task_end_count}
use Rattle.encoder.specs.declared.fields.SurfaceFields.{SurfaceFields}
use Rattle.encoder.specs.Forms.{first_form}
use Rattle.encoder.specs.RoundTrip.{surface_with, task_with, expected_decoding}
use Rattle.score.specs.Coverage.{coverage_of}
use Rattle.encoder.specs.declared.tint.Tint.{Tint}
use Rattle.encoder.specs.Tint.{tint_colour, fields_of, answer_of, buffer_after}

-- the pixel's own alpha
abbrev pub own_alpha : Alpha
own_alpha = record { mode = Pixel; global = 0 }

-- one colour, as large as the output
abbrev pub tint_source : Steps → Tint → ℕ → SurfaceFields → Source
tint_source steps tint coverage output = record {
  surface = record { address = 0; stride = 0; width = output.width; height = output.height; format = Argb8888 };
  mode = Colour;
  colour = tint_colour tint coverage;
  steps = steps;
  transform = record { flip = record { horizontal = false; vertical = false }; rotation = Rotate0 };
  alpha = own_alpha;
  enabled = true;
}

-- laid by SRC_OVER over what the output holds
abbrev pub tint_task : Steps → Tint → ℕ → SurfaceFields → Task
tint_task steps tint coverage output = record {
  source = tint_source steps tint coverage output;
  destination = record { surface = surface_with output; alpha = own_alpha; enabled = true };
  output = surface_with output;
  blending = record { on = true; rule = blend_mode_factors SrcOver; premultiplied = false };
}

-- colours are bytes and an address is a 32-bit number, as those that the call is handed are
pub record Handed (tint : Tint) (output : SurfaceFields) : Type 0 where
  pub red : tint.red < 256
  pub green : tint.green < 256
  pub blue : tint.blue < 256
  pub address : output.address < 2 ^ 32

pub record TintRoundTrip (bounds : Bounds) (bank : Bank) (score : Float) (tint : Tint) (output : SurfaceFields) : Type 0 where
  -- what is left in a buffer that was written is read as the one task with these fields, and 25 to 28 are judged of them
  pub one_task : (buffer : List ℕ) → answer_of score tint output (length buffer) ≡ Ok tt →
      decode_batch bounds bank (words (take 80 (buffer_after score tint output buffer))) ≡ expected_decoding bounds bank 0 (first_form (fields_of score tint output) ∷ [])
  -- it has one task-end mark
  pub one_task_end : (buffer : List ℕ) → answer_of score tint output (length buffer) ≡ Ok tt →
      task_end_count (words (take 80 (buffer_after score tint output buffer))) ≡ 1
  -- and these fields are those of the tint, no other
  pub same_task : task_with bank.steps (fields_of score tint output) ≡ tint_task bank.steps tint (coverage_of score) output
