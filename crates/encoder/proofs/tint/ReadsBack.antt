-- A tint reads back as its own task: the encoder's round trip at its fields.
use mathlib.Core.Path.{◌≡◌, refl, sym, ap, ◌∙◌}
use mathlib.Core.Bool.{Bool, true, false, cond}
use mathlib.Core.List.{List, [], ◌∷◌, append-nil}
use Prim.Native.Nat.{ℕ, ◌^◌, ◌<◌, ◌≤◌}
use native.Mathlib.Omega.{arith}
use lib.Dec.{lit<}
use lib.ListN.{length, take}
use lib.Ieee.{Float}
use Rattle.word.specs.Word.{words}
use Rattle.pixel.specs.declared.colour.Colour.{Colour}
use Rattle.pixel.specs.declared.format.Format.TheVariants.{Argb8888}
use Rattle.pixel.specs.Formats.{layout_of}
use Rattle.pixel.specs.Colours.{packed}
use Rattle.pixel.proofs.Stored.{Bytes}
use Rattle.pixel.proofs.Channels.{narrowed-byte}
use Rattle.pixel.proofs.Kept.{word-colour}
use Rattle.division.proofs.Products.{scaled_byte}
use Rattle.pixel.specs.declared.gradient.Steps.{Steps}
use Rattle.register.specs.declared.bank.Bank.{Bank}
use Rattle.task_check.specs.declared.task.Bounds.{Bounds}
use Rattle.batch.specs.Batch.{decode_batch}
use Rattle.batch.specs.Marks.{task_end_count}
use Rattle.encoder.specs.declared.EncodeError.{EncodeError}
use Rattle.std.specs.Prelude.{Result, Ok, Err, ⊤}
use Rattle.encoder.specs.declared.fields.SurfaceFields.{SurfaceFields}
use Rattle.encoder.specs.Forms.{first_form}
use Rattle.encoder.specs.Encoder as encoder
use Rattle.encoder.specs.RoundTrip.{surface_with, alpha_with, transform_with, source_with, destination_with, blending_with, task_with, Fits32Bits, all_bytes}
use Rattle.encoder.proofs.ReadsBack.{reads_back}
use Rattle.encoder.proofs.Buffer.{accepted, front}
use Rattle.score.specs.Coverage.{is_score, coverage_of}
use Rattle.encoder.specs.declared.tint.Tint.{Tint}
use Rattle.encoder.specs.declared.tint.TintError.{TintError}
use Rattle.encoder.specs.declared.tint.TintError.TheVariants.{BadScore, Refused}
use Rattle.encoder.specs.Tint.{tint_colour, tint_fields, fields_of, of_encoder, answer_of, buffer_after}
use Rattle.encoder.specs.TintReadsBack.{tint_task, Handed, TintRoundTrip}
use Rattle.encoder.proofs.tint.Cases.{scored}

coverage-byte : (score : Float) → coverage_of score ≤ 255
unfolding coverage_of
coverage-byte score = omega arith

module _ (score : Float) (tint : Tint) (output : SurfaceFields) (h : Handed tint output) where
  abbrev colour : Colour
  colour = tint_colour tint (coverage_of score)

  -- each channel of the colour is a byte
  bytes : Bytes colour
  unfolding tint_colour
  bytes =
      let small = coverage-byte score in
      let red = scaled_byte tint.red (coverage_of score) (omega (arith, h.red)) small in
      let green = scaled_byte tint.green (coverage_of score) (omega (arith, h.green)) small in
      let blue = scaled_byte tint.blue (coverage_of score) (omega (arith, h.blue)) small in
      record { alpha = omega arith; red = omega arith; green = omega arith; blue = omega arith }

  -- and so it fits the colour register
  fits : packed (layout_of Argb8888) colour < 2 ^ 32
  unfolding packed
  fits = rw (narrowed-byte colour.alpha, narrowed-byte colour.red, narrowed-byte colour.green, narrowed-byte colour.blue)
      (omega (arith, bytes.alpha, bytes.red, bytes.green, bytes.blue))

  plain : Fits32Bits (fields_of score tint output)
  unfolding tint_fields
  plain = record { source = lit< tt; destination = h.address; output = h.address; colour = fits }

  same : (steps : Steps) → task_with steps (fields_of score tint output) ≡ tint_task steps tint (coverage_of score) output
  unfolding task_with source_with destination_with surface_with alpha_with transform_with blending_with tint_fields
  same steps = rw (word-colour colour bytes) refl

  -- a tint that is written is the encoder's task, and is so in the buffer
  written : (size : ℕ) → answer_of score tint output size ≡ Ok tt → (is_score score ≡ true) × (encoder.answer_of (first_form (fields_of score tint output)) size ≡ Ok tt)
  unfolding answer_of
  written size e = go (is_score score) (encoder.answer_of (first_form (fields_of score tint output)) size) refl refl e
    where
      go : (b : Bool) (a : Result ⊤ EncodeError) → is_score score ≡ b → encoder.answer_of (first_form (fields_of score tint output)) size ≡ a → ◌≡◌ {A = Result ⊤ TintError} (cond b (of_encoder a) (Err BadScore)) (Ok tt)
          → (is_score score ≡ true) × (encoder.answer_of (first_form (fields_of score tint output)) size ≡ Ok tt)
      go true (Ok tt) p q r = (p, q)
      go true (Err x) p q r = absurd (let z : ◌≡◌ {A = ℕ} 0 1 = cc in omega arith)
      go false a p q r = absurd (let z : ◌≡◌ {A = ℕ} 0 1 = cc in omega arith)

  after : (buffer : List ℕ) → is_score score ≡ true → buffer_after score tint output buffer ≡ encoder.buffer_after (first_form (fields_of score tint output)) buffer
  after buffer e = sym (scored score tint output buffer e).1

  pub tint_reads-back : (bounds : Bounds) (bank : Bank) → TintRoundTrip bounds bank score tint output
  unfolding all_bytes
  tint_reads-back bounds bank = record {
    one_task = λ buffer e.
        let w = written (length buffer) e in
        ap (λ (b : List ℕ). decode_batch bounds bank (words (take 80 b))) (after buffer w.0)
        ∙ (reads_back bounds bank).one_task (first_form (fields_of score tint output)) buffer plain w.1;
    one_task_end = λ buffer e.
        let w = written (length buffer) e in
        let f = first_form (fields_of score tint output) in
        ap (λ (b : List ℕ). task_end_count (words (take 80 b))) (after buffer w.0)
        ∙ ap (λ (b : List ℕ). task_end_count (words b)) (front f buffer w.1 ∙ sym (append-nil (encoder.task_bytes f)))
        ∙ (reads_back bounds bank).one_task_end_each (f ∷ []) ((accepted f (length buffer) w.1).0, tt) (plain, tt);
    same_task = same bank.steps;
  }
