-- What is answered, and what the buffer holds after it, without a score and with one.
use mathlib.Core.Path.{◌≡◌, refl}
use mathlib.Core.Bool.{true, false}
use mathlib.Core.List.{List}
use Prim.Native.Nat.{ℕ}
use lib.ListN.{length}
use lib.Ieee.{Float}
use Rattle.score.specs.Coverage.{is_score}
use Rattle.encoder.specs.declared.fields.SurfaceFields.{SurfaceFields}
use Rattle.encoder.specs.Forms.{first_form}
use Rattle.encoder.specs.Encoder as encoder
use Rattle.encoder.specs.declared.tint.Tint.{Tint}
use Rattle.std.specs.Prelude.{Err}
use Rattle.encoder.specs.declared.tint.TintError.TheVariants.{BadScore}
use Rattle.encoder.specs.Tint.{fields_of, of_encoder, answer_of, buffer_after}

module _ (score : Float) (tint : Tint) (output : SurfaceFields) (buffer : List ℕ) where
  pub bad_score : is_score score ≡ false → (Err BadScore ≡ answer_of score tint output (length buffer)) × (buffer ≡ buffer_after score tint output buffer)
  unfolding answer_of buffer_after
  bad_score e = (rw e refl, rw e refl)

  pub scored : is_score score ≡ true → (of_encoder (encoder.answer_of (first_form (fields_of score tint output)) (length buffer)) ≡ answer_of score tint output (length buffer))
      × (encoder.buffer_after (first_form (fields_of score tint output)) buffer ≡ buffer_after score tint output buffer)
  unfolding answer_of buffer_after
  scored e = (rw e refl, rw e refl)
