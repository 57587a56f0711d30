-- Run, if it is not refused, takes the batch that the model takes, judges and draws it alike, and leaves what the model leaves.
use mathlib.Core.Path.{◌≡◌, ap, ap₂, sym, ◌∙◌}
use native.Mathlib.Omega.{arith}
use mathlib.Core.List.{List, ◌∷◌}
use Prim.Native.Nat.{ℕ, ◌+◌, ◌%◌}
use lib.ListN.{length}
use Rattle.reset.specs.declared.ResetRule.{ResetRule}
use Rattle.word.specs.Word.{words}
use Rattle.ring.specs.Segment.{segment, wrap_offset}
use Rattle.ring.proofs.Wrapped.{wrapped_add}
use Rattle.register.specs.Bank.{reset_bank}
use Rattle.task_check.specs.declared.task.Bounds.{Bounds}
use Rattle.batch.specs.Batch.{decode_batch, verdict_of}
use Rattle.engine_record.specs.declared.Setup.{Setup as Numbers}
use Rattle.engine_record.specs.declared.EngineRecord.{EngineRecord}
use Rattle.engine_record.specs.Slots.{sum_over, total_length}
use Rattle.engine_record.specs.Queue.{ready_bytes, write_offset, waiting}
use Rattle.engine_record.proofs.Rules.{valid_facts, sum-waiting, ready-within}
use Rattle.queue.proofs.Validity.{few-taken}
use Rattle.engine.specs.Run.{oldest, bounds_of_client, oldest_words, without_oldest}
use Rattle.engine.proofs.Refusals.{RunAllowed, run-allowed}
use Rattle.engine.proofs.Preservation.{run-sized, run-valid, run-kept, run-waiting, oldest_owner, oldest-words, run-held}
use Rattle.model.specs.Calls.{Setup, run, Answer, completed}
use Rattle.model.specs.State.{Batch, window_of}
use Rattle.model.specs.Model.{run_step, effect}
use Rattle.claims.specs.BatchSemantics.{bounds_of, completion_status_of}
use Rattle.claims.specs.ModelProperties.{batch_semantics}
use Rattle.claims.specs.Engine.{State}
use Rattle.claims.proofs.Cases.{number, done}
use Rattle.claims.proofs.Abstraction.{seen_places, places-recounted, seen_batch, seen_waiting}
use Rattle.claims.proofs.SimulationRelation.{abstraction, seen_staging, Sound, window-at}
use Rattle.claims.proofs.SimulationSteps.{Simulates}

module _ (setup : Setup) (n : ℕ) (s : State) (S : Sound setup n s) (count : ℕ) (next : s.engine.next_ticket ≡ count % 4294967296) (z : number run s ≡ 0) where
  allowed : RunAllowed s.engine (length s.ring) (length s.memory)
  allowed = run-allowed s.engine (length s.ring) (length s.memory) z

  -- the client's window and common
  bounds : bounds_of_client s.engine (oldest s.engine).client ≡ bounds_of (window_of (abstraction count s) (oldest s.engine).client) setup.common
  bounds = rw (window-at setup n s S count (oldest s.engine).client (oldest_owner s.engine S.sized (length s.ring) (length s.memory) allowed), S.numbers)

  -- the reset rule
  rule : s.engine.setup.reset ≡ setup.reset
  rule = ap (λ (x : Numbers). x.reset) S.numbers

  -- the words
  read : oldest_words s.engine s.ring ≡ words (segment s.ring (oldest s.engine).offset (oldest s.engine).length)
  read = oldest-words s.engine S.sized s.ring (length s.memory) allowed

  -- the batch as the model sees it, and those behind it
  abbrev first : Batch
  first = seen_batch (oldest s.engine) (segment s.ring (oldest s.engine).offset (oldest s.engine).length)

  abbrev rest : List Batch
  rest = seen_waiting s.ring (waiting (without_oldest s.engine))

  waits : seen_waiting s.ring (waiting s.engine) ≡ first ∷ rest
  waits = run-held s.engine S.sized s.ring (length s.memory) allowed seen_batch

  run_sound : Sound setup n (done run s).after
  unfolding without_oldest
  run_sound = record {
    sized = run-sized s.engine S.sized;
    ok = run-valid s.engine S.sized (length s.ring) (length s.memory) allowed;
    numbers = S.numbers;
    long = S.long;
  }

  run-next : (done run s).after.engine.next_ticket ≡ count % 4294967296
  unfolding without_oldest
  run-next = next

  -- the staged submission lies where it lay
  pub run-offset : write_offset (without_oldest s.engine) ≡ write_offset s.engine
  unfolding without_oldest sum_over
  run-offset =
      let e : EngineRecord = s.engine in
      let v = valid_facts e S.ok in
      let after : EngineRecord = without_oldest e in
      let rest : ready_bytes after ≡ total_length (waiting after) =
      sum-waiting after (valid_facts after (run-valid e S.sized (length s.ring) (length s.memory) allowed)) (few-taken after (run-sized e S.sized)) (λ b. b.length)
      in
      let all : ready_bytes e ≡ (oldest e).length + total_length (waiting after) =
      sum-waiting e v (few-taken e S.sized) (λ b. b.length) ∙ ap total_length (run-waiting e S.sized (length s.ring) (length s.memory) allowed)
      in
      let within = ready-within e v (few-taken e S.sized) in
      ap (λ (x : ℕ). wrap_offset e.setup.ring (wrap_offset e.setup.ring (e.read_offset + (oldest e).length) + x)) rest
      ∙ wrapped_add e.setup.ring e.read_offset (oldest e).length (total_length (waiting after)) v.numbers.below (omega arith)
      ∙ ap (λ (x : ℕ). wrap_offset e.setup.ring (e.read_offset + x)) (sym all)

  run-staged : seen_staging s.ring (without_oldest s.engine) ≡ seen_staging s.ring s.engine
  unfolding seen_staging
  run-staged = rw (run-offset, (run-kept s.engine).2)

  run-places : seen_places (without_oldest s.engine).clients ≡ seen_places s.engine.clients
  unfolding without_oldest
  run-places = places-recounted s.engine.clients (oldest s.engine).client _

  abbrev reported : Bounds → ResetRule → List ℕ → Answer
  reported b r ws = completed (oldest s.engine).client (oldest s.engine).ticket (completion_status_of (verdict_of (decode_batch b (reset_bank r) ws)))

  run_like : Simulates setup n (done run s) (run_step (batch_semantics setup) setup.common (abstraction count s) (first ∷ rest))
  run_like = (
    ap (λ (r : ResetRule). reported (bounds_of_client s.engine (oldest s.engine).client) r (oldest_words s.engine s.ring)) rule
        ∙ ap₂ (λ (b : Bounds) (ws : List ℕ). reported b setup.reset ws) bounds read,
    record {
      sound = run_sound;
      next_ticket = run-next;
      is = rw (run-staged, run-places, bounds, rule, read);
    },
  )

  pub run-done : Simulates setup n (done run s) (effect (batch_semantics setup) setup n run (abstraction count s))
  unfolding effect
  run-done = rw waits run_like
