-- The engine's ring after any list of calls is the one that the reference model gives.
use mathlib.Core.Path.{◌≡◌, refl, ap, ap₂, sym, ◌∙◌}
use mathlib.Core.List.{List, [], ◌∷◌, ◌++◌}
use mathlib.Core.Bool.{Bool, true, false, cond}
use mathlib.Core.Logic.{⊎_elim}
use Prim.Native.Nat.{ℕ, zero, suc, ◌+◌, ◌<◌}
use native.Mathlib.Nat.{add-zero}
use native.Mathlib.Omega.{arith}
use lib.ListN.{length}
use lib.Dec.{eqb}
use borrow.Author.Tests.{ne_eqb}
use Rattle.ring.specs.Segment.{wrap_offset}
use Rattle.ring.specs.Copied.{copied_in}
use Rattle.ring.proofs.Wrapped.{wrapped_in}
use Rattle.ring.proofs.Segment.{length-segment}
use Rattle.engine_record.specs.declared.Setup.{Setup as Numbers}
use Rattle.engine_record.specs.declared.EngineRecord.{EngineRecord}
use Rattle.engine_record.specs.Staged.{no_staged, is_idle}
use Rattle.engine_record.specs.Queue.{ready_bytes, write_offset}
use Rattle.engine_record.proofs.Unfinished.{Unfinished, staged_cases}
use Rattle.queue.specs.Refusals.{first_refusal, set_up_table}
use Rattle.queue.specs.Calls.{unless_refused, initial_record, set_up_result, with_client, with_batch, with_staged, without_client, new_batch, more, is_last, after_piece, piece_offset as offsetOfPiece}
use Rattle.queue.proofs.Refusals.{submit-allowed, piece-allowed}
use Rattle.queue.proofs.Preservation.{set-up-number}
use Rattle.engine.specs.Run.{oldest, without_oldest}
use Rattle.engine.proofs.Refusals.{run-allowed}
use Rattle.engine.proofs.Preservation.{oldest_lies, run-held}
use Rattle.model.specs.Calls.{Setup, Call, opens, submit, run, pending, begin, piece, cancel, close}
use Rattle.model.specs.State.{Batch, Staging, idle, staging, Model, initial_model, total_bytes}
use Rattle.model.specs.Refusals.{refusal}
use Rattle.model.specs.Model.{Step, refuse_or, effect, step, piece_step, run_step}
use Rattle.claims.specs.ModelProperties.{batch_semantics}
use Rattle.claims.specs.Engine.{State, CallResult, perform_call, state_after, SetUpAccepted, initial_state}
use Rattle.claims.proofs.Cases.{number, done, either, by_number}
use Rattle.claims.proofs.Abstraction.{seen_batch}
use Rattle.claims.proofs.SimulationRelation.{numbers_in, none_seen, some-seen, Sound, Related, facts, bytes_count, staged_long}
use Rattle.claims.proofs.RefusalsAgree.{alike}
use Rattle.claims.proofs.Simulation.{step_simulates, start}
use Rattle.claims.specs.Ring.{received_bytes, batch_offset, piece_offset, ring_after_call, read_after_call, ring_after_calls}

-- the one or the other, by the number
either-ring : (k : ℕ) (s : State) (d : CallResult) (ring : List ℕ) → (k ≡ 0 → d.after.ring ≡ ring) → (either k s d).after.ring ≡ cond (eqb k 0) ring s.ring
unfolding either
either-ring zero s d ring h = h refl
either-ring (suc k) s d ring h = rw (ne_eqb (suc k) 0 (omega arith))

either_same : (k : ℕ) (s : State) (d : CallResult) → d.after.ring ≡ s.ring → (either k s d).after.ring ≡ s.ring
unfolding either
either_same zero s d h = h
either_same (suc k) s d h = refl

-- a step that runs no batch leaves the read offset
pieces-run-none : (model : Model) (staged : Staging) (bytes : List ℕ) → (piece_step model staged bytes).executed ≡ []
pieces-run-none model idle bytes = refl
pieces-run-none model (staging client total before) bytes = go (eqb (length (before ++ bytes)) total) _ _ refl refl
  where
    go : (t : Bool) (a b : Step) → a.executed ≡ [] → b.executed ≡ [] → (cond t a b).executed ≡ []
    go true a b p q = p
    go false a b p q = q

after-piece-read : (e : EngineRecord) (size : ℕ) → (after_piece e size).read_offset ≡ e.read_offset
unfolding with_batch with_staged
after-piece-read e size = go (is_last e.staged size)
  where
    go : (t : Bool) → (cond t (with_batch e e.staged.slot (new_batch e e.staged.client e.staged.total)) (with_staged e (more e.staged size))).read_offset ≡ e.read_offset
    go true = refl
    go false = refl

module _ (setup : Setup) (n : ℕ) (model : Model) (s : State) (R : Related setup n model s) where
  S : Sound setup n s
  S = R.sound

  -- the ring's length as it was set up
  ring_like : s.engine.setup.ring ≡ setup.ring
  ring_like = ap (λ (x : Numbers). x.ring) S.numbers

  -- both refuse alike
  number_like : (c : Call) → number c s ≡ refusal setup n model c
  number_like c = alike setup n s S model.accepted c ∙ sym (ap (λ (m : Model). refusal setup n m c) R.is)

  -- where the next batch goes
  batch-offset : length s.ring ≡ s.engine.setup.ring → write_offset s.engine ≡ batch_offset setup n s.engine.read_offset model
  batch-offset lent =
      let same : n ≡ setup.ring = omega (arith, S.long, ring_like) in
      let bytes : total_bytes model.waiting ≡ ready_bytes s.engine = ap (λ (m : Model). total_bytes m.waiting) R.is ∙ bytes_count setup n s S same in
      rw (bytes, ring_like)

  -- as many bytes of the staged submission have come
  received_like : length s.ring ≡ s.engine.setup.ring → received_bytes model.staged ≡ s.engine.staged.received
  received_like lent =
      let same : n ≡ setup.ring = omega (arith, S.long, ring_like) in
      ap (λ (m : Model). received_bytes m.staged) R.is
      ∙ ⊎_elim
      (λ (z : s.engine.staged ≡ no_staged). ap received_bytes (none_seen s.ring s.engine z) ∙ rw z)
      (λ (u : (is_idle s.engine.staged ≡ false) × Unfinished s.engine). ap received_bytes (some-seen s.ring s.engine u.0) ∙ staged_long setup n s S same)
      (staged_cases s.engine (facts setup n s S).staged)

  piece-offset : length s.ring ≡ s.engine.setup.ring → offsetOfPiece s.engine ≡ piece_offset setup n s.engine.read_offset model
  piece-offset lent = rw (received_like lent, ← batch-offset lent, ring_like)

  -- the ring after a call
  ring_call : (c : Call) → (perform_call c s).after.ring ≡ ring_after_call setup n s.engine.read_offset c model s.ring
  unfolding ring_after_call
  ring_call (opens w) = rw (by_number (opens w) s) (either_same (number (opens w) s) s (done (opens w) s) refl)
  ring_call (submit client bytes) =
      rw (by_number (submit client bytes) s, ← number_like (submit client bytes))
      (either-ring (number (submit client bytes) s) s (done (submit client bytes) s) _
      (λ z. ap (λ (at : ℕ). copied_in s.ring at bytes) (batch-offset (submit-allowed s.engine (length s.ring) client (length bytes) z).ring)))
  ring_call run = rw (by_number run s) (either_same (number run s) s (done run s) refl)
  ring_call (pending client) = rw (by_number (pending client) s) (either_same (number (pending client) s) s (done (pending client) s) refl)
  ring_call (begin client total) = rw (by_number (begin client total) s) (either_same (number (begin client total) s) s (done (begin client total) s) refl)
  ring_call (piece client bytes) =
      rw (by_number (piece client bytes) s, ← number_like (piece client bytes))
      (either-ring (number (piece client bytes) s) s (done (piece client bytes) s) _
      (λ z. ap (λ (at : ℕ). copied_in s.ring at bytes) (piece-offset (piece-allowed s.engine (length s.ring) client (length bytes) z).ring)))
  ring_call (cancel client) = rw (by_number (cancel client) s) (either_same (number (cancel client) s) s (done (cancel client) s) refl)
  ring_call (close client) = rw (by_number (close client) s) (either_same (number (close client) s) s (done (close client) s) refl)

  -- no batch was run
  read_none : s.engine.read_offset ≡ wrap_offset setup.ring (s.engine.read_offset + 0)
  read_none = let below : s.engine.read_offset < setup.ring = omega (arith, (facts setup n s S).numbers.below, ring_like) in
      sym (rw add-zero (wrapped_in setup.ring s.engine.read_offset below))

  read_kept : (batches : List Batch) → batches ≡ [] → (read : ℕ) → read ≡ s.engine.read_offset → read ≡ wrap_offset setup.ring (s.engine.read_offset + total_bytes batches)
  unfolding total_bytes
  read_kept batches e read r = r ∙ read_none ∙ ap (λ (bs : List Batch). wrap_offset setup.ring (s.engine.read_offset + total_bytes bs)) (sym e)

  -- the oldest batch was
  read-run : number run s ≡ 0 → (without_oldest s.engine).read_offset ≡ wrap_offset setup.ring (s.engine.read_offset + total_bytes (run_step (batch_semantics setup) setup.common model model.waiting).executed)
  unfolding without_oldest total_bytes
  read-run z =
      let allowed = run-allowed s.engine (length s.ring) (length s.memory) z in
      let size = length-segment s.ring (oldest s.engine).offset (oldest s.engine).length (oldest_lies s.engine S.sized s.ring (length s.memory) allowed) in
      let waits = ap (λ (m : Model). m.waiting) R.is ∙ run-held s.engine S.sized s.ring (length s.memory) allowed seen_batch in
      rw (waits, size, add-zero, ring_like)

  done-read : (c : Call) → number c s ≡ 0 → (done c s).after.engine.read_offset ≡ read_after_call setup n s.engine.read_offset (effect (batch_semantics setup) setup n c model)
  unfolding effect with_client with_batch with_staged without_client
  done-read (opens w) z = read_kept [] refl _ refl
  done-read (submit client bytes) z = read_kept [] refl _ refl
  done-read run z = read-run z
  done-read (pending client) z = read_kept [] refl _ refl
  done-read (begin client total) z = read_kept [] refl _ refl
  done-read (piece client bytes) z = read_kept (piece_step model model.staged bytes).executed (pieces-run-none model model.staged bytes) _ (after-piece-read s.engine (length bytes))
  done-read (cancel client) z = read_kept [] refl _ refl
  done-read (close client) z = read_kept [] refl _ refl

  -- the read offset after a call
  read_call : (c : Call) → (perform_call c s).after.engine.read_offset ≡ read_after_call setup n s.engine.read_offset (step (batch_semantics setup) setup n c model)
  unfolding either refuse_or
  read_call c = rw (by_number c s, ← number_like c) (go (number c s) (done-read c))
    where
      go : (k : ℕ) → (k ≡ 0 → (done c s).after.engine.read_offset ≡ read_after_call setup n s.engine.read_offset (effect (batch_semantics setup) setup n c model)) →
          (either k s (done c s)).after.engine.read_offset ≡ read_after_call setup n s.engine.read_offset (refuse_or k model (effect (batch_semantics setup) setup n c model))
      go zero h = h refl
      go (suc k) h = read_kept [] refl _ refl

-- any list of calls
ring-calls : (setup : Setup) (n : ℕ) (cs : List Call) (model : Model) (s : State) → Related setup n model s → (state_after cs s).ring ≡ ring_after_calls setup n s.engine.read_offset cs model s.ring
unfolding state_after ring_after_calls
ring-calls setup n [] model s R = refl
ring-calls setup n (c ∷ cs) model s R =
    ring-calls setup n cs (step (batch_semantics setup) setup n c model).after (perform_call c s).after (step_simulates setup n c model s R).1
    ∙ ap₂ (λ (read : ℕ) (ring : List ℕ). ring_after_calls setup n read cs (step (batch_semantics setup) setup n c model).after ring) (read_call setup n model s R c) (ring_call setup n model s R c)

-- from an accepted set up on
start-read : (setup : Setup) (ring memory : List ℕ) → SetUpAccepted setup → (initial_state setup ring memory).engine.read_offset ≡ 0
unfolding set_up_result unless_refused initial_record
start-read setup ring memory A = let none : first_refusal (set_up_table (numbers_in setup)) ≡ 0 = sym (set-up-number (numbers_in setup)) ∙ A in rw none

pub ring-after : (setup : Setup) (ring memory : List ℕ) → SetUpAccepted setup → (cs : List Call) →
    (state_after cs (initial_state setup ring memory)).ring ≡ ring_after_calls setup (length ring) 0 cs (initial_model memory) ring
ring-after setup ring memory A cs =
    ring-calls setup (length ring) cs (initial_model memory) (initial_state setup ring memory) (start setup ring A memory)
    ∙ ap (λ (read : ℕ). ring_after_calls setup (length ring) read cs (initial_model memory) ring) (start-read setup ring memory A)
