-- A faulty batch leaves memory with the tasks before its fault drawn, and the queue without it.
use mathlib.Core.Path.{◌≡◌, refl, ap, sym, ◌∙◌}
use mathlib.Core.List.{List, ◌∷◌}
use Prim.Native.Nat.{ℕ, zero, suc, ◌/◌}
use native.Mathlib.Omega.{arith}
use lib.ListN.{length}
use Rattle.batch.specs.Batch.{BatchEnd, finished, faulty, DecodedBatch, decode_batch, verdict_after, verdict_of, status_word_of, fault_number_of, tasks_drawn}
use Rattle.batch.proofs.Tasks.{fault-small}
use Rattle.raster.specs.Task.{draw_tasks}
use Rattle.raster.proofs.Fold.{batch-tasks}
use Rattle.engine_record.specs.Queue.{waiting}
use Rattle.engine.specs.Run.{oldest, bounds_of_client, oldest_words, reset_of, oldest_verdict}
use Rattle.engine.proofs.Refusals.{run-allowed}
use Rattle.engine.proofs.Preservation.{run-waiting}
use Rattle.model.specs.Calls.{Setup, Call, run, CompletionStatus, completed}
use Rattle.claims.specs.BatchSemantics.{completion_status_of}
use Rattle.claims.specs.Engine.{State, CallResult, perform_call, SetUpAccepted}
use Rattle.claims.specs.Demand1.{standing}
use Rattle.claims.specs.Demand3.{final_state, FaultyBatchStands}
use Rattle.claims.proofs.Cases.{number, done, either, by_number}
use Rattle.claims.proofs.SimulationRelation.{Sound}
use Rattle.claims.proofs.Simulation.{at-end}

-- the number in the upper half of its status word
upper_half : (r : DecodedBatch) → ¬ (fault_number_of (verdict_of r) ≡ 0) → length (tasks_drawn r) ≡ status_word_of (verdict_of r) / 65536
upper_half r h = by (length r.tasks) r.ending h
  where
    by : (n : ℕ) (e : BatchEnd) → ¬ (fault_number_of (verdict_after n e) ≡ 0) → n ≡ status_word_of (verdict_after n e) / 65536
    by n finished h = absurd (h refl)
    by n (faulty fault offset) h = omega (arith, fault-small fault)

-- a run that completes is not refused
completes : (n : ℕ) (s : State) (d : CallResult) (client ticket : ℕ) (v : CompletionStatus) → (either n s d).answer ≡ completed client ticket v → n ≡ 0
unfolding either
completes zero s d client ticket v e = refl
completes (suc n) s d client ticket v e = let z : ◌≡◌ {A = ℕ} 0 1 = cc in absurd (omega arith)

-- one run, from any record that is sound
stands-run : (setup : Setup) (n : ℕ) (s : State) → Sound setup n s → (client ticket : ℕ) (v : CompletionStatus) → (perform_call run s).answer ≡ completed client ticket v → ¬ (v.fault ≡ 0) →
    ((perform_call run s).after.memory ≡ draw_tasks (standing s) s.memory) × (length (standing s) ≡ v.status / 65536)
    × (waiting s.engine ≡ oldest s.engine ∷ waiting (perform_call run s).after.engine)
unfolding either
stands-run setup n s S client ticket v e h =
    let z : number run s ≡ 0 = completes (number run s) s (done run s) client ticket v (rw (by_number run s) at e) in
    let done-is : perform_call run s ≡ done run s = rw (by_number run s, z) in
    let same : completion_status_of (oldest_verdict s.engine s.ring) ≡ v = let q = rw done-is at e in cc in
    let fault : v.fault ≡ fault_number_of (oldest_verdict s.engine s.ring) = sym (ap (λ (x : CompletionStatus). x.fault) same) in
    let status : status_word_of (oldest_verdict s.engine s.ring) ≡ v.status = ap (λ (x : CompletionStatus). x.status) same in
    let bounds = bounds_of_client s.engine (oldest s.engine).client in
    rw done-is (
      batch-tasks bounds (reset_of s.engine) (oldest_words s.engine s.ring) s.memory,
      upper_half (decode_batch bounds (reset_of s.engine) (oldest_words s.engine s.ring)) (λ f. h (fault ∙ f)) ∙ ap (λ (x : ℕ). x / 65536) status,
      run-waiting s.engine S.sized (length s.ring) (length s.memory) (run-allowed s.engine (length s.ring) (length s.memory) z),
    )

pub stands : (setup : Setup) (ring : List ℕ) → SetUpAccepted setup → (calls : List Call) (memory : List ℕ) → FaultyBatchStands setup ring calls memory
stands setup ring A calls memory = stands-run setup (length ring) (final_state setup ring calls memory) (at-end setup ring A calls memory).sound
