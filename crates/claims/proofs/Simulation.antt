-- The engine follows the model call by call, and so over any list of calls from an accepted set up.
use mathlib.Core.Path.{◌≡◌, refl, ap, ap₂, sym, subst, ◌∙◌}
use mathlib.Core.List.{List, [], ◌∷◌}
use Prim.Native.Nat.{ℕ}
use lib.ListN.{length}
use Rattle.engine_record.proofs.Line.{held}
use Rattle.queue.specs.Refusals.{first_refusal, set_up_table}
use Rattle.queue.specs.Calls.{unless_refused, initial_record as freshRecord, set_up_result}
use Rattle.queue.proofs.Refusals.{set-up-allowed}
use Rattle.queue.proofs.Validity.{fresh_sized, fresh_valid, fresh_waiting}
use Rattle.queue.proofs.Preservation.{set-up-number}
use Rattle.model.specs.Calls.{Setup, Call, opens, submit, run, pending, begin, piece, cancel, close, Answer}
use Rattle.model.specs.State.{Model, initial_model}
use Rattle.model.specs.Refusals.{refusal}
use Rattle.model.specs.Model.{step, effect, answers, memories, after, model_after_all}
use Rattle.claims.specs.ModelProperties.{batch_semantics}
use Rattle.claims.specs.Engine.{State, mk_state, perform_call, answers_of, memories_of, state_after, SetUpAccepted, initial_state}
use Rattle.claims.specs.Demand3.{RefinesModel}
use Rattle.claims.proofs.Cases.{number, done, by_number}
use Rattle.claims.proofs.Abstraction.{seen_places}
use Rattle.claims.proofs.SimulationRelation.{numbers_in, abstraction, none_seen, Related}
use Rattle.claims.proofs.RefusalsAgree.{alike}
use Rattle.claims.proofs.SimulationSteps.{Simulates, either-alike, open_done, submit-done, begin-done, cancel-done, close-done, pending_done}
use Rattle.claims.proofs.Pieces.{piece-done}
use Rattle.claims.proofs.Runs.{run-done}

module _ (setup : Setup) (n : ℕ) where
  -- a call that is not refused
  all_done : (c : Call) (model : Model) (s : State) (R : Related setup n model s) → number c s ≡ 0 → Simulates setup n (done c s) (effect (batch_semantics setup) setup n c (abstraction model.accepted s))
  all_done (opens w) model s R z = open_done setup n s R.sound model.accepted R.next_ticket w z
  all_done (submit client bytes) model s R z = submit-done setup n s R.sound model.accepted R.next_ticket client bytes z
  all_done run model s R z = run-done setup n s R.sound model.accepted R.next_ticket z
  all_done (begin client total) model s R z = begin-done setup n s R.sound model.accepted R.next_ticket client total z
  all_done (piece client bytes) model s R z = piece-done setup n s R.sound model.accepted R.next_ticket client bytes z
  all_done (cancel client) model s R z = cancel-done setup n s R.sound model.accepted R.next_ticket client z
  all_done (close client) model s R z = close-done setup n s R.sound model.accepted R.next_ticket client z
  all_done (pending client) model s R z = pending_done setup n s R.sound model.accepted R.next_ticket client

  -- any call
  pub step_simulates : (c : Call) (model : Model) (s : State) → Related setup n model s → Simulates setup n (perform_call c s) (step (batch_semantics setup) setup n c model)
  step_simulates c model s R =
      rw (by_number c s)
      (either-alike setup n (number c s) _ model s (done c s) _
      (alike setup n s R.sound model.accepted c ∙ sym (ap (λ (m : Model). refusal setup n m c) R.is))
      R
      (λ z. subst (λ (m : Model). Simulates setup n (done c s) (effect (batch_semantics setup) setup n c m)) (sym R.is) (all_done c model s R z)))

  -- any list of calls
  pub calls_simulate : (cs : List Call) (model : Model) (s : State) → Related setup n model s →
      (answers_of cs s ≡ answers (batch_semantics setup) setup n cs model) × Related setup n (after (batch_semantics setup) setup n cs model) (state_after cs s)
  unfolding answers_of state_after answers after
  calls_simulate [] model s R = (refl, R)
  calls_simulate (c ∷ cs) model s R =
      let q = step_simulates c model s R in
      let r = calls_simulate cs (step (batch_semantics setup) setup n c model).after (perform_call c s).after q.1 in
      (ap₂ (λ (a : Answer) (rest : List Answer). a ∷ rest) q.0 r.0, r.1)

  -- and memory after each call is the model's
  pub remember : (cs : List Call) (model : Model) (s : State) → Related setup n model s → memories_of cs s ≡ memories (batch_semantics setup) setup n cs model
  unfolding memories_of memories
  remember [] model s R = refl
  remember (c ∷ cs) model s R =
      let q = (step_simulates c model s R).1 in
      ap₂ (λ (m : List ℕ) (rest : List (List ℕ)). m ∷ rest) (sym (ap (λ (m : Model). m.memory) q.is)) (remember cs (step (batch_semantics setup) setup n c model).after (perform_call c s).after q)

-- ---- from the start

module _ (setup : Setup) (ring : List ℕ) (A : SetUpAccepted setup) where
  none : first_refusal (set_up_table (numbers_in setup)) ≡ 0
  none = sym (set-up-number (numbers_in setup)) ∙ A

  begun : (memory : List ℕ) → initial_state setup ring memory ≡ mk_state (freshRecord (numbers_in setup)) ring memory
  unfolding set_up_result unless_refused
  begun memory = rw none

  fresh_related : (memory : List ℕ) → Related setup (length ring) (initial_model memory) (mk_state (freshRecord (numbers_in setup)) ring memory)
  unfolding freshRecord seen_places held
  fresh_related memory = record {
    sound = record {
      sized = fresh_sized (numbers_in setup);
      ok = fresh_valid (numbers_in setup) (set-up-allowed (numbers_in setup) none);
      numbers = refl;
      long = refl;
    };
    next_ticket = refl;
    is = rw (fresh_waiting (numbers_in setup), none_seen ring (freshRecord (numbers_in setup)) refl);
  }

  pub start : (memory : List ℕ) → Related setup (length ring) (initial_model memory) (initial_state setup ring memory)
  start memory = rw (begun memory) (fresh_related memory)

  module _ (calls : List Call) (memory : List ℕ) where
    both : (answers_of calls (initial_state setup ring memory) ≡ answers (batch_semantics setup) setup (length ring) calls (initial_model memory))
        × Related setup (length ring) (model_after_all (batch_semantics setup) setup (length ring) calls memory) (state_after calls (initial_state setup ring memory))
    both = calls_simulate setup (length ring) calls (initial_model memory) (initial_state setup ring memory) (start memory)

    -- the two stay related
    pub at-end : Related setup (length ring) (model_after_all (batch_semantics setup) setup (length ring) calls memory) (state_after calls (initial_state setup ring memory))
    at-end = both.1

    pub like_model : RefinesModel setup ring calls memory
    like_model = record { every_answer = both.0; every_byte = sym (ap (λ (m : Model). m.memory) at-end.is) }
