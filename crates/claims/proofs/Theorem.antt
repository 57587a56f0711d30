-- Demand 3 holds.
use mathlib.Core.Path.{◌≡◌, sym, ap, ◌∙◌}
use mathlib.Core.List.{List, [], ◌∷◌, ◌++◌}
use Prim.Native.Nat.{ℕ}
use lib.ListN.{length}
use Rattle.model.specs.Windows.{Window, byte}
use Rattle.model.specs.Calls.{Setup, Call, opens, close}
use Rattle.model.specs.BatchSemantics.{BatchSemantics}
use Rattle.model.specs.State.{initial_model}
use Rattle.model.specs.Model.{step, answers, memories, after, model_after_all}
use Rattle.model.specs.Tenancy.{entered}
use Rattle.model.specs.Noninterference.{LowEquivalent}
use Rattle.claims.specs.ModelProperties.{batch_semantics}
use Rattle.claims.specs.Engine.{State, perform_call, answers_of, memories_of, state_after, SetUpAccepted, initial_state}
use Rattle.model.specs.Machine.{Isolation, entered_state, left_state, Noninterference}
use Rattle.claims.specs.Demand3.{engine_machine, Demand3Holds}
use Rattle.claims.proofs.ModelProperties.{of-model}
use Rattle.claims.proofs.Demand1.{demand1}
use Rattle.claims.proofs.SimulationRelation.{Related}
use Rattle.claims.proofs.Simulation.{step_simulates, calls_simulate, remember, start, at-end, like_model}
use Rattle.claims.proofs.InTime.{in_time}
use Rattle.claims.proofs.Cutting.{cutting}
use Rattle.claims.proofs.Faulted.{stands}

module _ (setup : Setup) (A : SetUpAccepted setup) where
  separate : (ring : List ℕ) (calls : List Call) (memory : List ℕ) →
      Isolation (batch_semantics setup) setup (length ring) calls memory engine_machine (initial_state setup ring memory)
  separate ring calls memory =
      let same = (like_model setup ring A calls memory).every_byte in
      let q = (of-model setup (length ring)).separate calls memory in
      record {
        resides = q.resides;
        only = q.only;
        holds = q.holds;
        window = rw same q.window;
        found = λ client t i p. ap (λ (m : List ℕ). byte m i) (like_model setup ring A t.before memory).every_byte ∙ q.found client t i p;
        no_window = rw same q.no_window;
        common = rw same q.common;
        size = rw same q.size;
      }

  -- one run, by what it shares with the model
  module _ (ring : List ℕ) (client : ℕ) (before : List Call) (w : Window) (during : List Call) (memory : List ℕ) where
    abbrev n : ℕ
    n = length ring

    abbrev way : BatchSemantics
    way = batch_semantics setup

    abbrev entered-state : State
    entered-state = entered_state engine_machine before w (initial_state setup ring memory)

    abbrev left-state : State
    left-state = left_state engine_machine before w (initial_state setup ring memory) during

    entered_related : Related setup n (entered way setup n (initial_model memory) before w) entered-state
    entered_related = (step_simulates setup n (opens w) (model_after_all way setup n before memory) (state_after before (initial_state setup ring memory)) (at-end setup ring A before memory)).1

    left_related : Related setup n (after way setup n during (entered way setup n (initial_model memory) before w)) left-state
    left_related = (calls_simulate setup n during _ _ entered_related).1

    answers_before : answers_of (before ++ opens w ∷ []) (initial_state setup ring memory) ≡ answers way setup n (before ++ opens w ∷ []) (initial_model memory)
    answers_before = (like_model setup ring A (before ++ opens w ∷ []) memory).every_answer

    answers_during : answers_of during entered-state ≡ answers way setup n during (entered way setup n (initial_model memory) before w)
    answers_during = (calls_simulate setup n during _ _ entered_related).0

    throughout : memories_of (before ++ opens w ∷ during) (initial_state setup ring memory) ≡ memories way setup n (before ++ opens w ∷ during) (initial_model memory)
    throughout = remember setup n (before ++ opens w ∷ during) (initial_model memory) (initial_state setup ring memory) (start setup ring A memory)

    closing-answers : (later : List Call) → answers_of (close client ∷ later) left-state ≡ answers way setup n (close client ∷ later) (after way setup n during (entered way setup n (initial_model memory) before w))
    closing-answers later = (calls_simulate setup n (close client ∷ later) _ _ left_related).0

    closing-left : (later : List Call) → memories_of (close client ∷ later) left-state ≡ memories way setup n (close client ∷ later) (after way setup n during (entered way setup n (initial_model memory) before w))
    closing-left later = remember setup n (close client ∷ later) _ _ left_related

    closing : (perform_call (close client) left-state).answer ≡ (step way setup n (close client) (after way setup n during (entered way setup n (initial_model memory) before w))).answer
    closing = (step_simulates setup n (close client) _ _ left_related).0

  noninterference : (client : ℕ) (ring ring' : List ℕ) (before : List Call) (w : Window) (during during' : List Call) (memory memory' : List ℕ) → length ring ≡ length ring' →
      LowEquivalent (batch_semantics setup) setup (length ring) client before w during during' memory memory' →
      Noninterference engine_machine client before w during during' (initial_state setup ring memory) (initial_state setup ring' memory')
  noninterference client ring ring' before w during during' memory memory' long t =
      let q = (of-model setup (length ring)).noninterference client before w during during' memory memory' t in
      record {
        answers_before = answers_before ring client before w during memory ∙ q.answers_before ∙ sym (rw (← long) at (answers_before ring' client before w during' memory'));
        answers_during = rw (answers_during ring client before w during memory, answers_during ring' client before w during' memory', ← long) q.answers_during;
        throughout = rw (throughout ring client before w during memory, throughout ring' client before w during' memory', ← long) q.throughout;
        from_closing = λ later z.
            let c = q.from_closing later (sym (closing ring client before w during memory) ∙ z) in (
              rw (closing-answers ring client before w during memory later, closing-answers ring' client before w during' memory' later, ← long) c.0,
              rw (closing-left ring client before w during memory later, closing-left ring' client before w during' memory' later, ← long) c.1,
            );
      }

-- the promise, with no premise but that set up was accepted
pub promise : Demand3Holds
promise setup ring A = record {
  like_model = like_model setup ring A;
  separate = separate setup A ring;
  noninterference = λ client ring'. noninterference setup A client ring ring';
  in_time = in_time setup ring A;
  cutting = cutting setup ring A;
  refused_no_change = λ call s. (demand1.calls s).refused_no_change call;
  stands = stands setup ring A;
}
