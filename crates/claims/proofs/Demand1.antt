-- Demand 1 holds.
use mathlib.Core.Path.{◌≡◌, refl, sym, ap}
use mathlib.Core.Bool.{Bool, true, false, cond, not}
use mathlib.Core.List.{List}
use Prim.Native.Nat.{ℕ, zero, suc, ◌+◌, ◌*◌}
use native.Mathlib.Omega.{arith}
use lib.ListN.{length}
use lib.Dec.{ltb}
use Rattle.task_check.specs.declared.fault.Fault.{Fault}
use Rattle.task_check.specs.Faults.{fault_number, fault_status}
use Rattle.batch.specs.Batch.{with_fault, decode_batch}
use Rattle.batch.proofs.Steps.{faulty_stopped}
use Rattle.raster.specs.Task.{draw_tasks}
use Rattle.raster.proofs.Fold.{batch-tasks}
use Rattle.std.specs.Prelude.{Result, Ok, Err, ⊤}
use Rattle.encoder.specs.declared.EncodeError.{EncodeError}
use Rattle.encoder.specs.declared.EncodeError.TheVariants.{Forbidden, ShortBuffer}
use Rattle.encoder.specs.Forms.{Form, form_allowed, form_size}
use Rattle.encoder.specs.Encoder.{answer_of, buffer_on_answer, buffer_after, task_bytes, encode_refusal_of as encoderNumber}
use Rattle.queue.specs.Refusals.{first_refusal}
use Rattle.queue.proofs.Preservation.{set-up-number}
use Rattle.engine.specs.Run.{oldest, bounds_of_client, oldest_words, reset_of, oldest_verdict, without_oldest}
use Rattle.model.specs.Calls.{Call, run, completed, refused}
use Rattle.claims.specs.Engine.{State, mk_state, CallResult, perform_call}
use Rattle.claims.specs.Demand1.{refusal_table_of, encoder_table, standing, OfCalls, Demand1}
use Rattle.claims.proofs.Cases.{number, done, either, by_number, answers, refused_no_change}

-- with any number
refused_by : (m n : ℕ) (s : State) (d : CallResult) → ¬ (n ≡ 0) → m ≡ n → (either m s d).answer ≡ refused n
unfolding either
refused_by zero n s d some e = absurd (some (sym e))
refused_by (suc m) n s d some e = ap refused e

refused-only : (m n : ℕ) (s : State) (d : CallResult) → ((k : ℕ) → d.answer ≡ refused k → ⊥) → (either m s d).answer ≡ refused n → (m ≡ n) × ¬ (n ≡ 0)
unfolding either
refused-only zero n s d done e = absurd (done n e)
refused-only (suc m) n s d done e = let same : suc m ≡ n = cc in (same, λ z. omega arith)

module _ (s : State) where
  refused_if : (c : Call) (n : ℕ) → ¬ (n ≡ 0) → first_refusal (refusal_table_of c s) ≡ n → (perform_call c s).answer ≡ refused n
  refused_if c n some e = rw (by_number c s) (refused_by (number c s) n s (done c s) some e)

  refused_only_if : (c : Call) (n : ℕ) → (perform_call c s).answer ≡ refused n → (first_refusal (refusal_table_of c s) ≡ n) × ¬ (n ≡ 0)
  refused_only_if c n e = refused-only (number c s) n s (done c s) (answers c s) (rw (by_number c s) at e)

  faulty : (tasks : ℕ) (fault : Fault) (place : ℕ) → first_refusal (refusal_table_of run s) ≡ 0 → oldest_verdict s.engine s.ring ≡ with_fault tasks fault place →
      (perform_call run s ≡ record {
        answer =
            completed (oldest s.engine).client (oldest s.engine).ticket
            (record { status = tasks * 65536 + fault_status fault; fault = fault_number fault; offset = place });
        after = mk_state (without_oldest s.engine) s.ring (draw_tasks (standing s) s.memory);
      }) × (length (standing s) ≡ tasks)
  unfolding either
  faulty tasks fault place z e =
      let bounds = bounds_of_client s.engine (oldest s.engine).client in
      let same = batch-tasks bounds (reset_of s.engine) (oldest_words s.engine s.ring) s.memory in
      (rw (by_number run s, z, same, e), sym (faulty_stopped tasks fault place (decode_batch bounds (reset_of s.engine) (oldest_words s.engine s.ring)) e).1)

  of_calls : OfCalls s
  of_calls = record { refused_if = refused_if; refused_only_if = refused_only_if; refused_no_change = λ c. refused_no_change c s; faulty = faulty }

-- ---- the encoder

module _ (form : Form) (buffer : List ℕ) where
  encoder_by_table : encoderNumber (answer_of form (length buffer)) ≡ first_refusal (encoder_table form (length buffer))
  unfolding answer_of first_refusal
  encoder_by_table = by (form_allowed form) (ltb (length buffer) (form_size form))
    where
      by : (a short : Bool) → encoderNumber (cond a (cond short (Err ShortBuffer) (Ok tt)) (Err Forbidden)) ≡ cond (not a) 24 (cond short 12 0)
      by true true = refl
      by true false = refl
      by false short = refl

  encoder-refused_no_change : ¬ (encoderNumber (answer_of form (length buffer)) ≡ 0) → buffer_after form buffer ≡ buffer
  unfolding buffer_after
  encoder-refused_no_change = by (answer_of form (length buffer))
    where
      by : (a : Result ⊤ EncodeError) → ¬ (encoderNumber a ≡ 0) → buffer_on_answer a (task_bytes form) buffer ≡ buffer
      by (Ok tt) some = absurd (some refl)
      by (Err Forbidden) some = refl
      by (Err ShortBuffer) some = refl

pub demand1 : Demand1
demand1 = record {
  set_up = set-up-number;
  calls = of_calls;
  encoder = λ form buffer. record { by_table = encoder_by_table form buffer; refused_no_change = encoder-refused_no_change form buffer };
}
