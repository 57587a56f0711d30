-- The bank of allowed fields: each of its registers takes its word, and the task that it describes has exactly these fields.
use mathlib.Core.Path.{◌≡◌}
use mathlib.Core.Bool.{true}
use Prim.Native.Nat.{ℕ, ◌+◌, ◌*◌, ◌^◌, ◌<◌}
use borrow.Author.Tests.{le-leb}
use Rattle.word.specs.Field.{field}
use Rattle.pixel.specs.declared.gradient.Steps.{Steps}
use Rattle.register.specs.Table.{source_control_accepts, destination_control_accepts, output_control_accepts, size_accepts, stride_accepts, step_accepts, blending_accepts}
use Rattle.register.specs.Task.{surface_of, transform_of, alpha_of, source_of_bank, destination_of, blending_of, task_of}
use Rattle.encoder.specs.declared.fields.SurfaceFields.{SurfaceFields}
use Rattle.encoder.specs.declared.fields.AlphaFields.{AlphaFields}
use Rattle.encoder.specs.declared.fields.TransformFields.{TransformFields}
use Rattle.encoder.specs.declared.fields.SourceFields.{SourceFields}
use Rattle.encoder.specs.declared.fields.DestinationFields.{DestinationFields}
use Rattle.encoder.specs.declared.fields.BlendingFields.{BlendingFields}
use Rattle.encoder.specs.declared.fields.Fields.{Fields}
use Rattle.encoder.specs.Fields.{steps_allowed, allowed}
use Rattle.encoder.specs.Registers.{surface_registers, source_control, destination_control, blending_word, bank_of}
use Rattle.encoder.specs.RoundTrip.{surface_with, alpha_with, transform_with, source_with, destination_with, blending_with, task_with}
use Rattle.encoder.proofs.Allowed.{SurfaceFits, SourceFits, DestinationFits, BlendingFits, parts, surface_fits, source_fits, destination-fits, blending_fits, steps_fit}
use Rattle.encoder.proofs.Bits as bits
use Rattle.encoder.proofs.Groups.{AllTaken, StepsTaken}

-- ---- the words are taken

module _ (s : SurfaceFields) (h : SurfaceFits s) where
  size-taken : size_accepts (s.height * 0x10000 + s.width) ≡ true
  size-taken = rw (bits.size_unused s h, bits.size_unused-low s h)

  stride-taken : stride_accepts s.stride ≡ true
  stride-taken = rw (bits.stride_unused s h)

  output-taken : output_control_accepts (s.format * 0x100) ≡ true
  output-taken = rw (bits.output_unused s h, bits.output-format s h, bits.output_unused-low s h, h.code)

source-taken : (s : SourceFields) → SourceFits s → source_control_accepts (source_control s) ≡ true
source-taken s h =
    let alpha = le-leb s.alpha.mode 2 h.alpha.mode in
    rw (bits.source-alpha_mode s h, bits.source_unused s h, bits.source-format s h, bits.source_bit_1 s h, alpha, h.surface.code)

destination-taken : (d : DestinationFields) → DestinationFits d → destination_control_accepts (destination_control d) ≡ true
destination-taken d h =
    let alpha = le-leb d.alpha.mode 2 h.alpha.mode in
    rw (bits.destination-alpha_mode d h, bits.destination_unused d h, bits.destination-format d h, bits.destination_unused-low d h, alpha, h.surface.code)

blending_taken : (b : BlendingFields) → BlendingFits b → blending_accepts (blending_word b) ≡ true
blending_taken b h =
    let source = le-leb b.source 5 h.source in
    let destination = le-leb b.destination 5 h.destination in
    rw (bits.blending_unused b h, bits.blending_unused_mid b h, bits.blending_source b h, bits.blending_destination b h, bits.blending_unused_low b h, source, destination)

pub all-taken : (steps : Steps) (f : Fields) → allowed f ≡ true → AllTaken (bank_of steps f)
unfolding bank_of surface_registers
all-taken steps f ok =
    let p = parts f ok in
    let s = source_fits f.source p.source in
    let d = destination-fits f.destination p.destination in
    let o = surface_fits f.output p.output in
    record {
      source = source-taken f.source s;
      source_size = size-taken f.source.surface s.surface;
      source_stride = stride-taken f.source.surface s.surface;
      destination = destination-taken f.destination d;
      destination_size = size-taken f.destination.surface d.surface;
      destination_stride = stride-taken f.destination.surface d.surface;
      output = output-taken f.output o;
      output_size = size-taken f.output o;
      output_stride = stride-taken f.output o;
      blending = blending_taken f.blending (blending_fits f.blending p.blending);
    }

step-taken : (word : ℕ) → word < 2 ^ 25 → step_accepts word ≡ true
step-taken word h = rw (bits.step_unused word h)

pub steps-taken : (s : Steps) → steps_allowed s ≡ true → StepsTaken s
steps-taken s ok =
    let h = steps_fit s ok in
    record {
      alpha = step-taken s.alpha h.alpha;
      red = step-taken s.red h.red;
      green = step-taken s.green h.green;
      blue = step-taken s.blue h.blue;
    }

-- ---- the fields come out again

surface_back : (s : SurfaceFields) (control : ℕ) → SurfaceFits s → field 14 8 control ≡ s.format → surface_of (surface_registers control s) ≡ surface_with s
unfolding surface_of surface_registers surface_with
surface_back s control h e = simp (bits.stride-stride s h, bits.size_width s h, bits.size_height s h, e)

alpha-back : (a : AlphaFields) (control : ℕ) → field 31 24 control ≡ a.global → field 23 22 control ≡ a.mode → alpha_of control ≡ alpha_with a
unfolding alpha_of alpha_with
alpha-back a control g m = simp (g, m)

transform_back : (t : TransformFields) (control : ℕ) → field 7 7 control ≡ t.vertical → field 6 6 control ≡ t.horizontal → field 5 4 control ≡ t.rotation
    → transform_of control ≡ transform_with t
unfolding transform_of transform_with
transform_back t control v h r = simp (v, h, r)

source-back : (steps : Steps) (f : Fields) → SourceFits f.source → source_of_bank (bank_of steps f) ≡ source_with f.source f.colour steps
unfolding source_of_bank bank_of surface_registers source_with
source-back steps f h =
    let s : SourceFields = f.source in
    let surface = surface_back s.surface (source_control s) h.surface (bits.source-format s h) in
    let transform = transform_back s.transform (source_control s) (bits.source_vertical s h) (bits.source_horizontal s h) (bits.source_rotation s h) in
    let alpha = alpha-back s.alpha (source_control s) (bits.source_global s h) (bits.source-alpha_mode s h) in
    simp (surface, transform, alpha, bits.source_mode s h, bits.source_enable s h)

destination-back : (steps : Steps) (f : Fields) → DestinationFits f.destination → destination_of (bank_of steps f) ≡ destination_with f.destination
unfolding destination_of bank_of surface_registers destination_with
destination-back steps f h =
    let d : DestinationFields = f.destination in
    let surface = surface_back d.surface (destination_control d) h.surface (bits.destination-format d h) in
    let alpha = alpha-back d.alpha (destination_control d) (bits.destination_global d h) (bits.destination-alpha_mode d h) in
    simp (surface, alpha, bits.destination_enable d h)

blending_back : (steps : Steps) (f : Fields) → BlendingFits f.blending → blending_of (bank_of steps f) ≡ blending_with f.blending
unfolding blending_of bank_of blending_with
blending_back steps f h = simp (bits.blending_source f.blending h, bits.blending_destination f.blending h, bits.blending_on f.blending h, bits.blending_premultiplied f.blending h)

output-back : (steps : Steps) (f : Fields) → SurfaceFits f.output → surface_of (bank_of steps f).output ≡ surface_with f.output
unfolding bank_of
output-back steps f h = surface_back f.output (f.output.format * 0x100) h (bits.output-format f.output h)

-- the task that the bank describes
pub task-back : (steps : Steps) (f : Fields) → allowed f ≡ true → task_of (bank_of steps f) ≡ task_with steps f
unfolding task_of task_with
task-back steps f ok =
    let p = parts f ok in
    let source = source-back steps f (source_fits f.source p.source) in
    let destination = destination-back steps f (destination-fits f.destination p.destination) in
    let output = output-back steps f (surface_fits f.output p.output) in
    let blending = blending_back steps f (blending_fits f.blending p.blending) in
    rw (source, destination, output, blending)
