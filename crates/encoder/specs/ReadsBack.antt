-- The promise of demand 2: "what the task writer writes reads back as the same task", read from any bank on and within any bounds, in either
-- form (02, request 3). proofs/ReadsBack.antt proves it.
use Rattle.std.specs.Prelude.{◌≡◌, List, [], ◌∷◌, ℕ, length, take, Ok}
use Rattle.word.specs.Word.{words}
use Rattle.reset.specs.declared.ResetRule.{ResetRule}
use Rattle.register.specs.Bank.{reset_bank, reset_steps}
use Rattle.register.specs.declared.bank.Bank.{Bank}
use Rattle.task_check.specs.declared.task.Bounds.{Bounds}
use Rattle.task_check.specs.Rules.{check_task}
use Rattle.batch.specs.Batch.{finished, stop_with, after_task_check, decode_batch}
use Rattle.batch.specs.Marks.{task_end_count}
use Rattle.encoder.specs.declared.fields.Fields.{Fields}
use Rattle.encoder.specs.Registers.{bank_of}
use Rattle.encoder.specs.Forms.{Form, first_form, fields_in, form_size}
use Rattle.encoder.specs.Encoder.{answer_of, buffer_after}
use Rattle.encoder.specs.RoundTrip.{task_with, all_tasks, all_bytes, AllAllowed, Fits32Bits, AllFit32Bits, AllPassTaskCheck, expected_decoding, bank_after}

pub record EncodeDecodeRoundTrip (bounds : Bounds) (bank : Bank) : Type 0 where
  -- what the encoder leaves in a buffer that it takes: the first form keeps the bank's steps, the second writes them
  pub one_task : (w : Form) (buffer : List ℕ) → Fits32Bits (fields_in w) → answer_of w (length buffer) ≡ Ok tt →
      decode_batch bounds bank (words (take (form_size w) (buffer_after w buffer))) ≡ expected_decoding bounds bank 0 (w ∷ [])
  -- "the first form takes no steps and, first in its batch, stands for steps of zero", under either reset rule
  pub first_in_batch : (rule : ResetRule) (f : Fields) (buffer : List ℕ) → Fits32Bits f → answer_of (first_form f) (length buffer) ≡ Ok tt →
      decode_batch bounds (reset_bank rule) (words (take 80 (buffer_after (first_form f) buffer)))
      ≡ after_task_check (check_task bounds (task_with reset_steps f)) (bank_of reset_steps f) 18 (stop_with (bank_of reset_steps f) finished)
  -- encoded tasks, one after the other
  pub many_tasks : (ws : List Form) → AllAllowed ws → AllFit32Bits ws → decode_batch bounds bank (words (all_bytes ws)) ≡ expected_decoding bounds bank 0 ws
  -- if 25 to 28 come of none of them, the same tasks in order
  pub in_order : (ws : List Form) → AllAllowed ws → AllPassTaskCheck bounds bank.steps ws →
      expected_decoding bounds bank 0 ws ≡ record { tasks = all_tasks bank.steps ws; ending = finished; bank = bank_after bank ws }
  -- and each has exactly one task-end mark
  pub one_task_end_each : (ws : List Form) → AllAllowed ws → AllFit32Bits ws → task_end_count (words (all_bytes ws)) ≡ length ws
