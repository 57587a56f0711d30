-- What the encoder leaves in each of its cases.
use mathlib.Core.Path.{◌≡◌, refl, sym, ap, ◌∙◌}
use mathlib.Core.Bool.{Bool, true, false, cond, ◌&&◌}
use mathlib.Core.List.{List}
use Prim.Native.Nat.{ℕ, ◌*◌}
use native.Mathlib.Omega.{arith}
use lib.Dec.{ltb}
use lib.ListN.{length}
use Rattle.std.specs.Prelude.{Result, Ok, Err, ⊤}
use Rattle.word.specs.Word.{words_bytes}
use Rattle.pixel.specs.declared.gradient.Steps.{Steps}
use Rattle.register.specs.Bank.{reset_steps}
use Rattle.register.specs.declared.bank.Bank.{Bank}
use Rattle.encoder.specs.declared.EncodeError.{EncodeError}
use Rattle.encoder.specs.declared.EncodeError.TheVariants.{Forbidden}
use Rattle.encoder.specs.declared.fields.Fields.{Fields}
use Rattle.encoder.specs.Fields.{allowed, steps_allowed}
use Rattle.encoder.specs.Registers.{bank_of}
use Rattle.encoder.specs.Words.{task_words, shaded_words}
use Rattle.encoder.specs.Forms.{Form, first_form, second_form, form_allowed, form_size, form_words}
use Rattle.encoder.specs.Encoder.{answer_of, fitting_answer, buffer_on_answer, task_bytes, buffer_after}

-- the bank of fields and steps
abbrev pub checked : Bool → Bank → Result Bank EncodeError
checked a bank = cond a (Ok bank) (Err Forbidden)

taken : (a : Bool) (x b : Bank) → Ok b ≡ checked a x → (a ≡ true) × (b ≡ x)
taken true x b e = (refl, cc)
taken false x b e = absurd (let z : ◌≡◌ {A = ℕ} 0 1 = cc in omega arith)

refused : (a : Bool) (x : Bank) (error : EncodeError) → Err error ≡ checked a x → (a ≡ false) × (error ≡ Forbidden)
refused true x error e = absurd (let z : ◌≡◌ {A = ℕ} 0 1 = cc in omega arith)
refused false x error e = (refl, cc)

-- steps of zero fit
reset-fit : (a : Bool) → a && steps_allowed reset_steps ≡ a
unfolding steps_allowed
reset-fit true = refl
reset-fit false = refl

module _ (w : Form) (a : Bool) (same : a ≡ form_allowed w) (x : Bank) (buffer : List ℕ) where
  -- a field, or a step, is forbidden
  pub forbids : (error : EncodeError) → Err error ≡ checked a x → (Err error ≡ answer_of w (length buffer)) × (buffer ≡ buffer_after w buffer)
  unfolding answer_of buffer_after
  forbids error e =
      let r = refused a x error e in
      let off : form_allowed w ≡ false = sym same ∙ r.0 in
      (rw (off, r.1), rw off)

  -- none is: the words are written, if they fit
  pub writes : (b : Bank) → Ok b ≡ checked a x → (words : List ℕ) → words ≡ form_words w → 4 * length words ≡ form_size w
      → (answer : Result ⊤ EncodeError) → answer ≡ fitting_answer (length words) (length buffer) → (after : List ℕ) → after ≡ buffer_on_answer answer (words_bytes words) buffer
      → (answer ≡ answer_of w (length buffer)) × (after ≡ buffer_after w buffer)
  unfolding answer_of buffer_after task_bytes
  writes b e words is size answer fits after wrote =
      let on : form_allowed w ≡ true = sym same ∙ (taken a x b e).0 in
      let said : answer ≡ answer_of w (length buffer) = rw on (fits ∙ rw size) in
      (said, wrote ∙ ap (λ (q : Result ⊤ EncodeError). buffer_on_answer q (words_bytes words) buffer) said ∙ ap (λ (l : List ℕ). buffer_on_answer (answer_of w (length buffer)) (words_bytes l) buffer) is)

-- of either form
module _ (f : Fields) (buffer : List ℕ) where
  first-same : allowed f && steps_allowed reset_steps ≡ form_allowed (first_form f)
  first-same = reset-fit (allowed f)

  pub first-forbids : (error : EncodeError) → Err error ≡ checked (allowed f && steps_allowed reset_steps) (bank_of reset_steps f)
      → (Err error ≡ answer_of (first_form f) (length buffer)) × (buffer ≡ buffer_after (first_form f) buffer)
  first-forbids = forbids (first_form f) (allowed f && steps_allowed reset_steps) first-same (bank_of reset_steps f) buffer

  pub first-writes : (b : Bank) → Ok b ≡ checked (allowed f && steps_allowed reset_steps) (bank_of reset_steps f) → (words : List ℕ) → words ≡ task_words b
      → (answer : Result ⊤ EncodeError) → answer ≡ fitting_answer (length words) (length buffer) → (after : List ℕ) → after ≡ buffer_on_answer answer (words_bytes words) buffer
      → (answer ≡ answer_of (first_form f) (length buffer)) × (after ≡ buffer_after (first_form f) buffer)
  unfolding task_words
  first-writes b e words is answer fits after wrote =
      let bank = (taken _ _ b e).1 in
      writes (first_form f) (allowed f && steps_allowed reset_steps) first-same (bank_of reset_steps f) buffer b e words (is ∙ ap task_words bank) (ap (λ (l : List ℕ). 4 * length l) is) answer fits after wrote

  module _ (steps : Steps) where
    pub second-forbids : (error : EncodeError) → Err error ≡ checked (allowed f && steps_allowed steps) (bank_of steps f)
        → (Err error ≡ answer_of (second_form f steps) (length buffer)) × (buffer ≡ buffer_after (second_form f steps) buffer)
    second-forbids = forbids (second_form f steps) (allowed f && steps_allowed steps) refl (bank_of steps f) buffer

    pub second-writes : (b : Bank) → Ok b ≡ checked (allowed f && steps_allowed steps) (bank_of steps f) → (words : List ℕ) → words ≡ shaded_words b
        → (answer : Result ⊤ EncodeError) → answer ≡ fitting_answer (length words) (length buffer) → (after : List ℕ) → after ≡ buffer_on_answer answer (words_bytes words) buffer
        → (answer ≡ answer_of (second_form f steps) (length buffer)) × (after ≡ buffer_after (second_form f steps) buffer)
    unfolding shaded_words
    second-writes b e words is answer fits after wrote =
        let bank = (taken _ _ b e).1 in
        writes (second_form f steps) (allowed f && steps_allowed steps) refl (bank_of steps f) buffer b e words (is ∙ ap shaded_words bank) (ap (λ (l : List ℕ). 4 * length l) is) answer fits after wrote
