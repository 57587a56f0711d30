-- A refused call changes nothing.
use mathlib.Core.Path.{◌≡◌, refl, ap₂, ◌∙◌}
use mathlib.Core.List.{List, [], ◌∷◌}
use Prim.Native.Nat.{ℕ}
use lib.ListN.{length}
use Rattle.reset.specs.declared.ResetRule.{ResetRule}
use Rattle.engine_record.specs.declared.Window.{Window}
use Rattle.engine_record.specs.declared.EngineRecord.{EngineRecord}
use Rattle.std.proofs.Common.{Result, Ok, Err}
use Rattle.queue.specs.declared.Refusal.{Refusal}
use Rattle.queue.specs.declared.Answer.{Answer}
use Rattle.queue.specs.Answers.{refusal_number_of, value_of}
use Rattle.queue.specs.Calls.{set_up_result, open_result, submit_result, submit_number, begin_result, piece_result, piece_number, cancel_result, close_result, pending_answer}
use Rattle.queue.proofs.Preservation.{submit-number, submit-refused_no_op, piece-number, piece-refused_no_op, close-number}
use Rattle.engine.specs.declared.Completion.{Completion}
use Rattle.engine.specs.Outcome.{run_refusal_of as refusalOf}
use Rattle.engine.specs.Run.{run_result, run_number}
use Rattle.engine.specs.Close.{close_number}
use Rattle.engine.proofs.Zeros.{close-left}
use Rattle.engine.proofs.Preservation.{run-number, run-refused_no_op}
use Rattle.engine.specs.Answers.{last_of, five_of}
use Rattle.record_bytes.specs.Read.{record_of}
use Rattle.record_bytes.specs.Written.{bytes_of}
use Rattle.calls.specs.Calls.{set_up_number, SetsUp, ValueWritten, Opens, Submits, NumberWritten, Begins, HandsOver, Cancels, Closes, Pends, Runs}
use Rattle.calls.specs.RefusedNoChange.{RefusedNoChange}
use Rattle.calls.proofs.Results.{unless_not}

-- what is answered with a refusal
no_value : (a : Result Answer Refusal) → (refusal_number_of a ≡ 0 → ⊥) → value_of a ≡ 0
no_value (Err r) h = refl
no_value (Ok answer) h = absurd (h refl)

no_last : (a : Result Answer Refusal) → (refusal_number_of a ≡ 0 → ⊥) → last_of a ≡ 0
no_last (Err r) h = refl
no_last (Ok answer) h = absurd (h refl)

no_five : (o : Result Completion Refusal) → (refusalOf o ≡ 0 → ⊥) → five_of o ≡ 0 ∷ 0 ∷ 0 ∷ 0 ∷ 0 ∷ []
no_five (Err r) h = refl
no_five (Ok c) h = absurd (h refl)

value-written_no_change : (bytes after : List ℕ) (a : Result Answer Refusal) (number value : ℕ) (bytesNow : List ℕ) → (number ≡ 0 → ⊥) → ValueWritten bytes after a number value bytesNow → (value ≡ 0) × (bytesNow ≡ bytes)
value-written_no_change bytes after a number value bytesNow refused t =
    let z : refusal_number_of a ≡ 0 → ⊥ = λ e. refused (t.number_is ∙ e) in
    (t.value_is ∙ no_value a z, t.record_is ∙ unless_not bytes after (refusal_number_of a) z)

number-written_no_change : (bytes after : List ℕ) (a : Result Answer Refusal) (number : ℕ) (bytesNow : List ℕ) → (number ≡ 0 → ⊥) → NumberWritten bytes after a number bytesNow → bytesNow ≡ bytes
number-written_no_change bytes after a number bytesNow refused t = t.record_is ∙ unless_not bytes after (refusal_number_of a) (λ e. refused (t.number_is ∙ e))

module _ (bytes bytesNow : List ℕ) (number : ℕ) (refused : number ≡ 0 → ⊥) where
  set-up-none : (ring memory common : ℕ) (reset : ResetRule) → SetsUp bytes ring memory common reset number bytesNow → bytesNow ≡ bytes
  set-up-none ring memory common reset s =
      s.record_is ∙ unless_not bytes (bytes_of (set_up_result ring memory common reset).engine) (set_up_number bytes ring memory common reset) (λ e. refused (s.number_is ∙ e))

  open_none : (w : Window) (value : ℕ) → Opens bytes w number value bytesNow → (value ≡ 0) × (bytesNow ≡ bytes)
  unfolding Opens
  open_none w value s = value-written_no_change bytes (bytes_of (open_result (record_of bytes) w).engine) (open_result (record_of bytes) w).answer number value bytesNow refused s

  submit-none : (ring ringNow : List ℕ) (client : ℕ) (batch : List ℕ) (value : ℕ) → Submits bytes ring client batch number value bytesNow ringNow →
      (value ≡ 0) × (bytesNow ≡ bytes) × (ringNow ≡ ring)
  submit-none ring ringNow client batch value s =
      let r : EngineRecord = record_of bytes in
      let t = value-written_no_change bytes (bytes_of (submit_result r ring client batch).engine) (submit_result r ring client batch).answer number value bytesNow refused s.answered in
      let z : submit_number r ring client batch ≡ 0 → ⊥ = λ e. refused (s.answered.number_is ∙ submit-number r ring client batch ∙ e) in
      (t.0, t.1, s.ring_is ∙ (submit-refused_no_op r ring client batch z).1)

  begin-none : (ring : List ℕ) (client total : ℕ) → Begins bytes ring client total number bytesNow → bytesNow ≡ bytes
  unfolding Begins
  begin-none ring client total s =
      let reply = begin_result (record_of bytes) (length ring) client total in
      number-written_no_change bytes (bytes_of reply.engine) reply.answer number bytesNow refused s

  cancel-none : (client : ℕ) → Cancels bytes client number bytesNow → bytesNow ≡ bytes
  unfolding Cancels
  cancel-none client s =
      let reply = cancel_result (record_of bytes) client in
      number-written_no_change bytes (bytes_of reply.engine) reply.answer number bytesNow refused s

  piece-none : (ring ringNow : List ℕ) (client : ℕ) (piece two : List ℕ) → HandsOver bytes ring client piece number two bytesNow ringNow →
      (two ≡ 0 ∷ 0 ∷ []) × (bytesNow ≡ bytes) × (ringNow ≡ ring)
  piece-none ring ringNow client piece two s =
      let r : EngineRecord = record_of bytes in
      let a : Result Answer Refusal = (piece_result r ring client piece).answer in
      let z : refusal_number_of a ≡ 0 → ⊥ = λ e. refused (s.answered.number_is ∙ e) in
      let n : piece_number r ring client piece ≡ 0 → ⊥ = λ e. refused (s.answered.number_is ∙ piece-number r ring client piece ∙ e) in (
        s.answered.two_are ∙ ap₂ (λ (x y : ℕ). x ∷ y ∷ []) (no_last a z) (no_value a z),
        s.answered.record_is ∙ unless_not bytes (bytes_of (piece_result r ring client piece).engine) (refusal_number_of a) z,
        s.ring_is ∙ (piece-refused_no_op r ring client piece n).1,
      )

  close-none : (memory memoryNow : List ℕ) (client : ℕ) → Closes bytes memory client number bytesNow memoryNow → (bytesNow ≡ bytes) × (memoryNow ≡ memory)
  close-none memory memoryNow client s =
      let r : EngineRecord = record_of bytes in
      let reply = close_result r (length memory) client in
      let n : close_number r memory client ≡ 0 → ⊥ = λ e. refused (s.answered.number_is ∙ close-number r (length memory) client ∙ e) in
      (number-written_no_change bytes (bytes_of reply.engine) reply.answer number bytesNow refused s.answered, s.memory_is ∙ close-left r memory client n)

  run_none : (ring memory memoryNow five : List ℕ) → Runs bytes ring memory number five bytesNow memoryNow →
      (five ≡ 0 ∷ 0 ∷ 0 ∷ 0 ∷ 0 ∷ []) × (bytesNow ≡ bytes) × (memoryNow ≡ memory)
  run_none ring memory memoryNow five s =
      let r : EngineRecord = record_of bytes in
      let o : Result Completion Refusal = (run_result r ring memory).outcome in
      let z : refusalOf o ≡ 0 → ⊥ = λ e. refused (s.reports.number_is ∙ e) in
      let n : run_number r ring memory ≡ 0 → ⊥ = λ e. refused (s.reports.number_is ∙ run-number r ring memory ∙ e) in
      (s.reports.five_are ∙ no_five o z, s.reports.record_is ∙ unless_not bytes (bytes_of (run_result r ring memory).engine) (refusalOf o) z, s.memory_is ∙ (run-refused_no_op r ring memory n).1)

  pending-none : (client value : ℕ) → Pends bytes client number value → value ≡ 0
  pending-none client value s = s.value_is ∙ no_value (pending_answer (record_of bytes) client) (λ e. refused (s.number_is ∙ e))

  pub refused_no_change : RefusedNoChange bytes bytesNow number refused
  refused_no_change = record { by_set_up = set-up-none; by_open = open_none; by_submit = submit-none; by_begin = begin-none; by_piece = piece-none; by_cancel = cancel-none; by_close = close-none; by_run = run_none; by_pending = pending-none }
