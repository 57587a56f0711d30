-- Run's words, and that run's numbers fit in words of 32 bits.
use Rattle.std.proofs.Common.{Result, Ok}
use mathlib.Core.Path.{◌≡◌, refl}
use mathlib.Core.Bool.{true, not}
use Prim.Native.Nat.{ℕ, zero, suc, ◌≤◌, ◌<◌, ◌%◌}
use mathlib.Core.List.{List, [], ◌∷◌}
use native.Mathlib.Omega.{arith}
use lib.ListN.{length}
use borrow.Author.Tests.{not-true}
use Rattle.word.proofs.Tests.{and-true}
use Rattle.batch.specs.Batch.{status_word_of, fault_number_of as faultOf, fault_offset_of}
use Rattle.batch.proofs.DecoderCases.{words_fit}
use Rattle.batch.proofs.Tasks.{status-fits}
use Rattle.batch.proofs.Offsets.{offset-within}
use Rattle.engine_record.specs.declared.Batch.{Batch}
use Rattle.engine_record.specs.declared.EngineRecord.{EngineRecord}
use Rattle.engine_record.specs.Setup.{bad_length}
use Rattle.engine_record.specs.Tickets.{ticket_before, batch_of_ticket, in_ticket_order}
use Rattle.engine_record.specs.Queue.{ready_slots}
use Rattle.engine_record.specs.Rules.{lengths_allowed, valid}
use Rattle.engine_record.proofs.Rules.{valid_facts, length-good}
use Rattle.queue.specs.declared.Refusal.{Refusal}
use Rattle.queue.specs.Answers.{answer_unless_refused}
use Rattle.engine.specs.declared.Completion.{Completion}
use Rattle.engine.specs.Run.{run_number, oldest, bounds_of_client, oldest_words, reset_of, oldest_verdict, run_result}
use Rattle.engine.proofs.Refusals.{run-allowed}
use Rattle.engine.specs.Answers.{run_words, OutcomeFitsWords}

-- ---- the words

pub completed-words : (o : Result Completion Refusal) (d : Completion) (status fault offset : ℕ) → o ≡ Ok d → status ≡ status_word_of d.verdict → fault ≡ faultOf d.verdict → offset ≡ fault_offset_of d.verdict →
    (0 ∷ d.client ∷ d.ticket ∷ status ∷ fault ∷ offset ∷ []) ≡ run_words o
completed-words o d status fault offset e s f p = rw (e, s, f, p)

-- ---- run's numbers

pub completed-small : (o : Result Completion Refusal) (d : Completion) → o ≡ Ok d → OutcomeFitsWords o → (status_word_of d.verdict ≤ 4294967295) × (fault_offset_of d.verdict ≤ 4294967295)
completed-small o d e s = let q = rw e at s in (q.status, q.offset)

pub word-whole : (n : ℕ) → n ≤ 4294967295 → n % 4294967296 ≡ n
word-whole n small = omega arith

-- a batch of a valid record has no more bytes than the longest ring
oldest-short : (engine : EngineRecord) → valid engine ≡ true → 0 < ready_slots engine → (oldest engine).length ≤ 32768
unfolding in_ticket_order lengths_allowed
oldest-short engine ok some = go (ready_slots engine) refl some
  where
    go : (n : ℕ) → ready_slots engine ≡ n → 0 < n → (oldest engine).length ≤ 32768
    go zero e h = absurd (omega arith)
    go (suc k) e h =
        let v = valid_facts engine ok in
        let b : Batch = batch_of_ticket (ticket_before engine.next_ticket (suc k)) engine.slots in
        let bad = bad_length engine.setup.ring b.length in
        let first = (and-true (not bad) (lengths_allowed engine.setup.ring (in_ticket_order k engine.next_ticket engine.slots)) (rw e at v.lengths)).0 in
        let good = length-good engine.setup.ring b.length (not-true bad first) in
        rw e (omega (arith, good.within, v.numbers.ring.small))

pub run_small : (engine : EngineRecord) (ring memory : List ℕ) → OutcomeFitsWords (run_result engine ring memory).outcome
unfolding run_result answer_unless_refused
run_small engine ring memory = go (run_number engine ring memory) refl
  where
    go : (n : ℕ) → run_number engine ring memory ≡ n →
        OutcomeFitsWords (answer_unless_refused n (record { client = (oldest engine).client; ticket = (oldest engine).ticket; verdict = oldest_verdict engine ring }))
    go (suc n) e = record { status = omega arith; offset = omega arith }
    go zero e =
        let a = run-allowed engine (length ring) (length memory) e in
        let short = oldest-short engine a.ok a.some in
        let bounds = bounds_of_client engine (oldest engine).client in
        let at = (oldest engine).offset in
        let size = (oldest engine).length in
        record {
          status = status-fits bounds (reset_of engine) ring at size (omega arith);
          offset = omega (arith, offset-within bounds (reset_of engine) (oldest_words engine ring), words_fit ring at size);
        }
