-- What encoded tasks are read back as (demand 2: "what the task writer writes reads back as the same task").
use Rattle.std.specs.Prelude.{◌≡◌, true, ℕ, ◌+◌, ◌^◌, ◌<◌, List, [], ◌∷◌, ◌++◌, eqb, Ok}
use Rattle.pixel.specs.Formats.{format_of, layout_of}
use Rattle.pixel.specs.Colours.{unpacked}
use Rattle.pixel.specs.Alpha.{alpha_mode_of}
use Rattle.pixel.specs.Blending.{factor_of}
use Rattle.pixel.specs.declared.format.Format.TheVariants.{Argb8888}
use Rattle.pixel.specs.declared.gradient.Steps.{Steps}
use Rattle.surface.specs.declared.Surface.{Surface}
use Rattle.transform.specs.declared.Transform.{Transform}
use Rattle.transform.specs.Transform.{rotation_of}
use Rattle.register.specs.Task.{source_mode_of}
use Rattle.register.specs.declared.bank.Bank.{Bank}
use Rattle.register.specs.declared.task.Alpha.{Alpha}
use Rattle.register.specs.declared.task.Source.{Source}
use Rattle.register.specs.declared.task.Destination.{Destination}
use Rattle.register.specs.declared.task.Blending.{Blending}
use Rattle.register.specs.declared.task.Task.{Task}
use Rattle.task_check.specs.declared.task.Bounds.{Bounds}
use Rattle.task_check.specs.Rules.{check_task}
use Rattle.batch.specs.Batch.{DecodedBatch, finished, stop_with, after_task_check}
use Rattle.encoder.specs.declared.fields.SurfaceFields.{SurfaceFields}
use Rattle.encoder.specs.declared.fields.AlphaFields.{AlphaFields}
use Rattle.encoder.specs.declared.fields.TransformFields.{TransformFields}
use Rattle.encoder.specs.declared.fields.SourceFields.{SourceFields}
use Rattle.encoder.specs.declared.fields.DestinationFields.{DestinationFields}
use Rattle.encoder.specs.declared.fields.BlendingFields.{BlendingFields}
use Rattle.encoder.specs.declared.fields.Fields.{Fields}
use Rattle.encoder.specs.Registers.{bank_of}
use Rattle.encoder.specs.Forms.{Form, first_form, second_form, fields_in, form_allowed, form_words}
use Rattle.encoder.specs.Encoder.{task_bytes}

-- ---- the task with exactly these steps and fields

unfoldable pub surface_with : SurfaceFields → Surface
surface_with s = record {
  address = s.address;
  stride = s.stride;
  width = s.width;
  height = s.height;
  format = format_of s.format;
}

unfoldable pub alpha_with : AlphaFields → Alpha
alpha_with a = record { mode = alpha_mode_of a.mode; global = a.global }

unfoldable pub transform_with : TransformFields → Transform
transform_with t = record {
  flip = record { horizontal = eqb t.horizontal 1; vertical = eqb t.vertical 1 };
  rotation = rotation_of t.rotation;
}

unfoldable pub source_with : SourceFields → ℕ → Steps → Source
source_with s colour steps = record {
  surface = surface_with s.surface;
  mode = source_mode_of s.mode;
  colour = unpacked (layout_of Argb8888) colour;
  steps = steps;
  transform = transform_with s.transform;
  alpha = alpha_with s.alpha;
  enabled = eqb s.enable 1;
}

unfoldable pub destination_with : DestinationFields → Destination
destination_with d = record { surface = surface_with d.surface; alpha = alpha_with d.alpha; enabled = eqb d.enable 1 }

unfoldable pub blending_with : BlendingFields → Blending
blending_with b = record {
  on = eqb b.on 1;
  rule = record { source = factor_of b.source; destination = factor_of b.destination };
  premultiplied = eqb b.premultiplied 1;
}

unfoldable pub task_with : Steps → Fields → Task
task_with steps f = record {
  source = source_with f.source f.colour steps;
  destination = destination_with f.destination;
  output = surface_with f.output;
  blending = blending_with f.blending;
}

-- ---- encoded tasks one after the other, in either form

-- the steps after a task: the second form writes them, the first leaves those that were
abbrev pub steps_after : Steps → Form → Steps
steps_after old (first_form f) = old
steps_after old (second_form f steps) = steps

-- the tasks with these fields, from these steps on
unfoldable pub all_tasks : Steps → List Form → List Task
all_tasks old [] = []
all_tasks old (w ∷ ws) = task_with (steps_after old w) (fields_in w) ∷ all_tasks (steps_after old w) ws

-- Internal: as words
unfoldable pub all_words : List Form → List ℕ
all_words [] = []
all_words (w ∷ ws) = form_words w ++ all_words ws

unfoldable pub all_bytes : List Form → List ℕ
all_bytes [] = []
all_bytes (w ∷ ws) = task_bytes w ++ all_bytes ws

-- the encoder takes the fields of each of them
abbrev pub AllAllowed : List Form → Type 0
AllAllowed [] = Unit
AllAllowed (w ∷ ws) = (form_allowed w ≡ true) × AllAllowed ws

-- addresses and a colour are 32-bit numbers, as those that the encoder is handed are
pub record Fits32Bits (f : Fields) : Type 0 where
  pub source : f.source.surface.address < 2 ^ 32
  pub destination : f.destination.surface.address < 2 ^ 32
  pub output : f.output.address < 2 ^ 32
  pub colour : f.colour < 2 ^ 32

abbrev pub AllFit32Bits : List Form → Type 0
AllFit32Bits [] = Unit
AllFit32Bits (w ∷ ws) = Fits32Bits (fields_in w) × AllFit32Bits ws

-- 25 to 28 do not come of any of them
abbrev pub AllPassTaskCheck : Bounds → Steps → List Form → Type 0
AllPassTaskCheck bounds old [] = Unit
AllPassTaskCheck bounds old (w ∷ ws) = (check_task bounds (task_with (steps_after old w) (fields_in w)) ≡ Ok tt) × AllPassTaskCheck bounds (steps_after old w) ws

-- the task-end header, in words from the task's first; one more word follows it
abbrev pub end_header : Form → ℕ
end_header (first_form f) = 18
end_header (second_form f steps) = 23

-- the bank after a task: its own registers, and the steps
abbrev pub bank_with : Bank → Form → Bank
bank_with bank w = bank_of (steps_after bank.steps w) (fields_in w)

-- what the tasks of these fields are read as from a bank on, the first of them at word k: each in order, 25 to 28 judged of its
-- fields and steps, a fault at the task-end header
unfoldable pub expected_decoding : Bounds → Bank → ℕ → List Form → DecodedBatch
expected_decoding bounds bank k [] = stop_with bank finished
expected_decoding bounds bank k (w ∷ ws) =
    after_task_check (check_task bounds (task_with (steps_after bank.steps w) (fields_in w))) (bank_with bank w) (k + end_header w)
    (expected_decoding bounds (bank_with bank w) (k + (end_header w + 2)) ws)

-- the bank after tasks of these fields
unfoldable pub bank_after : Bank → List Form → Bank
bank_after bank [] = bank
bank_after bank (w ∷ ws) = bank_after (bank_with bank w) ws
