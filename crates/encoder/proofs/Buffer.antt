-- The buffer after the encoder: as long as before, its first 80 or 100 bytes the task's and no others changed, if it is written.
use mathlib.Core.Path.{◌≡◌, refl, sym, ap, ◌∙◌}
use mathlib.Core.Bool.{Bool, true, false, cond}
use mathlib.Core.List.{List, [], ◌∷◌, ◌++◌, append-nil}
use Prim.Native.Nat.{ℕ, ◌+◌, ◌≤◌}
use native.Mathlib.Omega.{arith}
use lib.Dec.{ltb}
use lib.ListN.{length, take, drop}
use lib.Seq.{take_at, drop_at}
use borrow.Author.Tests.{ltb-false}
use Rattle.word.specs.Word.{words}
use Rattle.word.specs.Splice.{spliced}
use Rattle.word.proofs.Splice.{length-spliced}
use Rattle.word.proofs.Written.{length-bytes}
use Rattle.register.specs.declared.bank.Bank.{Bank}
use Rattle.task_check.specs.declared.task.Bounds.{Bounds}
use Rattle.batch.specs.Batch.{decode_batch}
use Rattle.std.specs.Prelude.{Result, Ok, Err, ⊤}
use Rattle.encoder.specs.declared.EncodeError.{EncodeError}
use Rattle.encoder.specs.declared.EncodeError.TheVariants.{Forbidden, ShortBuffer}
use Rattle.encoder.specs.Words.{task_words, shaded_words}
use Rattle.encoder.specs.Forms.{Form, first_form, second_form, fields_in, form_allowed, form_size, form_words}
use Rattle.encoder.specs.Encoder.{answer_of, task_bytes, buffer_on_answer, buffer_after}
use Rattle.encoder.specs.RoundTrip.{Fits32Bits, expected_decoding}
use Rattle.encoder.proofs.RoundTrip.{bytes_back, reads-back-one}

pub length-task_bytes : (w : Form) → length (task_bytes w) ≡ form_size w
unfolding task_bytes task_words shaded_words
length-task_bytes (first_form f) = length-bytes (form_words (first_form f))
length-task_bytes (second_form f steps) = length-bytes (form_words (second_form f steps))

-- what is accepted
pub accepted : (w : Form) (size : ℕ) → answer_of w size ≡ Ok tt → (form_allowed w ≡ true) × (form_size w ≤ size)
unfolding answer_of
accepted w size e = go (form_allowed w) (ltb size (form_size w)) refl refl e
  where
    go : (a s : Bool) → form_allowed w ≡ a → ltb size (form_size w) ≡ s → ◌≡◌ {A = Result ⊤ EncodeError} (cond a (cond s (Err ShortBuffer) (Ok tt)) (Err Forbidden)) (Ok tt)
        → (form_allowed w ≡ true) × (form_size w ≤ size)
    go true false p q r = (p, ltb-false size (form_size w) q)
    go true true p q r = absurd (let z : ◌≡◌ {A = ℕ} 0 1 = cc in omega arith)
    go false s p q r = absurd (let z : ◌≡◌ {A = ℕ} 0 1 = cc in omega arith)

-- the buffer of a task that is written
module _ (w : Form) (buffer : List ℕ) (e : answer_of w (length buffer) ≡ Ok tt) where
  after : buffer_after w buffer ≡ task_bytes w ++ drop (form_size w) buffer
  unfolding buffer_after spliced
  after = let z : 0 + form_size w ≡ form_size w = omega arith in rw (e, length-task_bytes w, z)

  pub front : take (form_size w) (buffer_after w buffer) ≡ task_bytes w
  front = rw after (take_at (task_bytes w) (drop (form_size w) buffer) (form_size w) (length-task_bytes w))

  pub others : drop (form_size w) (buffer_after w buffer) ≡ drop (form_size w) buffer
  others = rw after (drop_at (task_bytes w) (drop (form_size w) buffer) (form_size w) (length-task_bytes w))

  pub front-words : Fits32Bits (fields_in w) → words (take (form_size w) (buffer_after w buffer)) ≡ form_words w
  unfolding words
  front-words plain =
      ap words (front ∙ sym (append-nil (task_bytes w)))
      ∙ bytes_back w [] (accepted w (length buffer) e).0 plain
      ∙ append-nil (form_words w)

  -- what the encoder writes, read from any bank within any bounds: the one task with these fields, and 25 to 28 judged of them
  pub round_trip : Fits32Bits (fields_in w) → (bounds : Bounds) (bank : Bank)
      → decode_batch bounds bank (words (take (form_size w) (buffer_after w buffer))) ≡ expected_decoding bounds bank 0 (w ∷ [])
  round_trip plain bounds bank = ap (decode_batch bounds bank) (front-words plain) ∙ reads-back-one bounds bank w (accepted w (length buffer) e).0

-- in every case as long as before
pub length-after : (w : Form) (buffer : List ℕ) → length (buffer_after w buffer) ≡ length buffer
unfolding buffer_after
length-after w buffer = go (answer_of w (length buffer)) refl
  where
    go : (a : Result ⊤ EncodeError) → answer_of w (length buffer) ≡ a → length (buffer_on_answer a (task_bytes w) buffer) ≡ length buffer
    go (Ok tt) e = length-spliced 0 (task_bytes w) buffer (omega (arith, length-task_bytes w, (accepted w (length buffer) e).1))
    go (Err x) e = refl
