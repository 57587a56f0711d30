-- Laws of a record submitted and run.
use mathlib.Core.Path.{◌≡◌, refl, sym, ap, ◌∙◌}
use mathlib.Core.List.{List}
use Prim.Native.Nat.{ℕ, zero, suc, ◌-◌, ◌≤◌}
use native.Mathlib.Omega.{arith}
use Rattle.engine_record.specs.declared.EngineRecord.{EngineRecord}
use Rattle.queue.specs.declared.Reply.{Reply}
use Rattle.queue.specs.Answers.{refusal_number_of}
use Rattle.queue.specs.Calls.{submit_result, submit_ring}
use Rattle.engine.specs.declared.RunResult.{RunResult}
use Rattle.engine.specs.Outcome.{run_refusal_of as refusalOf, values_of}
use Rattle.engine.specs.Run.{run_result, run_memory}
use Rattle.model.specs.Calls.{run, refused}
use Rattle.claims.specs.Engine.{mk_state, CallResult, answer_or_refusal, completion, perform_call, State}
use Rattle.replay.specs.declared.serving.SubmitRunResult.{SubmitRunResult}
use Rattle.records.specs.Records.{Entry}
use Rattle.lines.specs.Lines.{refusal_line, answer_line, submit_and_run, entry_line, bad_score_line, record_line, record_after}
use mathlib.Core.Bool.{Bool, true, false}
use lib.ListN.{length, get_or, take, drop}
use Rattle.records.specs.declared.Edition.{Edition}
use Rattle.records.specs.declared.Edition.TheVariants.{First, Second}
use Rattle.records.specs.Reading.{batch_start, entry_in}
use Rattle.records.specs.Editions.{score_holds, score_in}
use Rattle.records.proofs.editions.Records.{score_in_lem, submission_in}
use Rattle.lines.specs.Prints.{Prints}
use Rattle.replay.specs.SubmitRunContract.{SubmitRunContract}

-- ---- a record

module _ (engine : EngineRecord) (ring memory : List ℕ) (entry : Entry) where
  abbrev reply : Reply
  reply = submit_result engine ring entry.client entry.batch

  abbrev rung : List ℕ
  rung = submit_ring engine ring entry.client entry.batch

  -- refused: nothing is run
  served_refused : (k : ℕ) → refusal_number_of reply.answer ≡ suc k
      → submit_and_run entry (mk_state engine ring memory) ≡ record { answer = refused (suc k); after = mk_state reply.engine rung memory }
  unfolding submit_and_run perform_call answer_or_refusal
  served_refused k e = rw e

  -- accepted: then it is run
  served_ran : refusal_number_of reply.answer ≡ 0 → submit_and_run entry (mk_state engine ring memory) ≡ perform_call run (mk_state reply.engine rung memory)
  unfolding submit_and_run perform_call answer_or_refusal
  served_ran e = rw e

module _ (engine : EngineRecord) (ring memory : List ℕ) (entry : Entry) (line : List ℕ) (s : SubmitRunResult) (r : Reply) (ring' memory' line' : List ℕ)
    (submitted : r ≡ submit_result engine ring entry.client entry.batch) (rung-is : ring' ≡ submit_ring engine ring entry.client entry.batch) where
  pub serves_refused : (number : ℕ) → number ≡ refusal_number_of r.answer → (number ≡ 0 → ⊥) → s.engine ≡ r.engine → memory' ≡ memory
      → Prints (refusal_line entry.client number) line s.written line' → SubmitRunContract (entry_line entry (mk_state engine ring memory)) (submit_and_run entry (mk_state engine ring memory)).after line s ring' memory' line'
  unfolding answer_line
  serves_refused zero e some same kept prints = absurd (some refl)
  serves_refused (suc k) e some same kept prints =
      let all = served_refused engine ring memory entry k (ap (λ (q : Reply). refusal_number_of q.answer) (sym submitted) ∙ sym e) in
      record {
        engine_is = same ∙ ap (λ (q : Reply). q.engine) submitted ∙ ap (λ (q : CallResult). q.after.engine) (sym all);
        ring_is = rung-is ∙ ap (λ (q : CallResult). q.after.ring) (sym all);
        memory_is = kept ∙ ap (λ (q : CallResult). q.after.memory) (sym all);
        prints = rw all prints;
      }

  pub serves_ran : (ran : RunResult) → refusal_number_of r.answer ≡ 0 → ran ≡ run_result r.engine ring' memory → memory' ≡ run_memory r.engine ring' memory → s.engine ≡ ran.engine
      → Prints (answer_line entry.client (answer_or_refusal (refusalOf ran.outcome) (completion (values_of ran.outcome)))) line s.written line'
      → SubmitRunContract (entry_line entry (mk_state engine ring memory)) (submit_and_run entry (mk_state engine ring memory)).after line s ring' memory' line'
  unfolding perform_call
  serves_ran ran e ran-is drawn same prints =
      let all = served_ran engine ring memory entry (ap (λ (q : Reply). refusal_number_of q.answer) (sym submitted) ∙ e) in
      record {
        engine_is = rw (all, ← submitted, ← rung-is, ← ran-is) same;
        ring_is = rw (all) rung-is;
        memory_is = rw (all, ← submitted, ← rung-is) drawn;
        prints = rw (all, ← submitted, ← rung-is, ← ran-is) prints;
      }

-- ---- a record in the buffer

-- there is a byte for its client
pub lies_some : (edition : Edition) (end room : ℕ) → (batch_start edition ≤ end) × (end ≤ room) → 5 ≤ room
lies_some First end room lies = omega arith
lies_some Second end room lies = omega arith

module _ (edition : Edition) (engine : EngineRecord) (ring memory held line : List ℕ) (end : ℕ) (lies : (batch_start edition ≤ end) × (end ≤ length held)) where
  abbrev begun : State
  begun = mk_state engine ring memory

  abbrev Record_serves : SubmitRunResult → (ring' memory' line' : List ℕ) → Type 0
  Record_serves s ring' memory' line' = SubmitRunContract (record_line edition (entry_in held end) begun) (record_after edition (entry_in held end) begun) line s ring' memory' line'

  holds : (b good : Bool) → good ≡ score_in edition held end → good ≡ b → score_holds edition (entry_in held end) ≡ b
  holds b good is e = sym (score_in_lem edition held end lies) ∙ sym is ∙ e

  -- its score is bad
  pub record_bad : (good : Bool) (written : ℕ) (line' : List ℕ) → good ≡ score_in edition held end → good ≡ false → Prints bad_score_line line written line'
      → Record_serves (record { engine = engine; written = written }) ring memory line'
  record_bad good written line' is e prints = rw (holds false good is e) (record { engine_is = refl; ring_is = refl; memory_is = refl; prints = prints })

  -- it is submitted
  pub record_good : (good : Bool) (start : ℕ) (s : SubmitRunResult) (ring' memory' line' : List ℕ) → good ≡ score_in edition held end → good ≡ true → start ≡ batch_start edition
      → let entry : Entry = record { client = get_or held 4 0; batch = take (end - start) (drop start held) } in
      SubmitRunContract (entry_line entry begun) (submit_and_run entry begun).after line s ring' memory' line' → Record_serves s ring' memory' line'
  record_good good start s ring' memory' line' is e at serves = rw (holds true good is e, submission_in edition held end lies, ← at) serves
