-- Run by its refusal number: refused, or done.
use Rattle.std.proofs.Common.{Ok, Err}
use mathlib.Core.Path.{◌≡◌, refl, sym, ◌∙◌}
use mathlib.Core.List.{List}
use Prim.Native.Nat.{ℕ}
use Rattle.ring.specs.Segment.{batch_words}
use Rattle.register.specs.declared.bank.Bank.{Bank}
use Rattle.task_check.specs.declared.task.Bounds.{Bounds}
use Rattle.batch.specs.declared.verdict.Verdict.{Verdict}
use Rattle.batch.specs.Batch.{decode_batch, verdict_of}
use Rattle.raster.specs.Batch.{draw_batch}
use Rattle.engine_record.specs.declared.Batch.{Batch}
use Rattle.engine_record.specs.declared.EngineRecord.{EngineRecord}
use Rattle.queue.specs.declared.Refusal.{Refusal}
use Rattle.queue.specs.Answers.{number_of, answer_unless_refused}
use Rattle.queue.specs.Calls.{unless_refused}
use Rattle.queue.proofs.Refusals.{not_zero}
use Rattle.queue.proofs.Calls.{answered_by, unless_no}
use Rattle.engine.specs.declared.Completion.{Completion}
use Rattle.engine.specs.Run.{run_number, oldest, bounds_of_client, oldest_words, reset_of, oldest_verdict, without_oldest, run_result, run_memory}

-- what run answers of the oldest batch, and memory after it
abbrev pub completion : EngineRecord → List ℕ → Completion
completion engine ring = record { client = (oldest engine).client; ticket = (oldest engine).ticket; verdict = oldest_verdict engine ring }

abbrev pub drawn : EngineRecord → (ring memory : List ℕ) → List ℕ
drawn engine ring memory = draw_batch (bounds_of_client engine (oldest engine).client) (reset_of engine) (oldest_words engine ring) memory

module _ (engine : EngineRecord) (ring memory : List ℕ) where
  -- a refusal changes neither record nor memory
  pub run-refused : (r : Refusal) → number_of r ≡ run_number engine ring memory →
      (record { outcome = Err r; engine = engine } ≡ run_result engine ring memory) × (memory ≡ run_memory engine ring memory)
  unfolding run_result run_memory
  run-refused r is =
      let n : ℕ = run_number engine ring memory in
      let some : n ≡ 0 → ⊥ = not_zero r n (sym is) in
      (rw (answered_by n (completion engine ring) r (sym is), unless_no n engine (without_oldest engine) some), sym (unless_no n memory (drawn engine ring memory) some))

  pub run-done : run_number engine ring memory ≡ 0 →
      (run_result engine ring memory ≡ record { outcome = Ok (completion engine ring); engine = without_oldest engine }) × (run_memory engine ring memory ≡ drawn engine ring memory)
  unfolding run_result run_memory answer_unless_refused unless_refused
  run-done z = rw z (refl, refl)

  -- the same of what the code made
  pub run-made : run_number engine ring memory ≡ 0 → (b : Batch) → b ≡ oldest engine → (bounds : Bounds) → bounds ≡ bounds_of_client engine b.client → (bank : Bank) → bank ≡ reset_of engine →
      (verdict : Verdict) → verdict ≡ verdict_of (decode_batch bounds bank (batch_words ring b.offset b.length)) → (after : EngineRecord) → after ≡ without_oldest engine →
      (new : List ℕ) → new ≡ draw_batch bounds bank (batch_words ring b.offset b.length) memory →
      (record { outcome = Ok (record { client = b.client; ticket = b.ticket; verdict = verdict }); engine = after } ≡ run_result engine ring memory) × (new ≡ run_memory engine ring memory)
  run-made z b is bounds e bank r verdict v after a new d =
      let done = run-done z in
      (rw (v, a, e, r, is) (sym done.0), d ∙ rw (e, r, is) (sym done.1))
