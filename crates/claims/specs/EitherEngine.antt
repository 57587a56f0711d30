-- The fast engine and the slow one over a list of calls (02, request 13: "the same memory and answers on every record, ring and memory, refused and
-- faulty ones included"). Each run may be made by either; all other calls draw nothing and are the same functions for both, closing too.
-- proofs/EitherEngine.antt proves it.
use Rattle.std.specs.Prelude.{◌≡◌, List, [], ◌∷◌, ℕ}
use Rattle.renderer.specs.declared.Renderer.{Renderer}
use Rattle.engine.specs.declared.RunResult.{RunResult}
use Rattle.engine.specs.Run.{RunBy}
use Rattle.model.specs.Calls.{Call, run, Answer}
use Rattle.claims.specs.Engine.{State, CallResult, run_call, perform_call, answers_of, state_after}

-- One call (02, request 13): a run by either engine, of which the contract of `run::run_by` says `RunBy`, or any call as its contract says it is (Engine).
pub data Performed : Call → State → CallResult → Type 0 where
  by_engine : (renderer : Renderer) (s : State) (r : RunResult) (memory : List ℕ) → RunBy renderer s.engine s.ring s.memory r memory → Performed run s (run_call s r memory)
  shared : (call : Call) (s : State) → Performed call s (perform_call call s)

-- A list of calls, each on what the one before it left: the answers, and record, ring and memory at the end. The choice between the two engines (02,
-- request 13) is made anew for each run.
pub data PerformedAll : List Call → State → List Answer → State → Type 0 where
  nil : (s : State) → PerformedAll [] s [] s
  cons : (call : Call) (calls : List Call) (s : State) (r : CallResult) (answers : List Answer) (end : State) → Performed call s r →
      PerformedAll calls r.after answers end → PerformedAll (call ∷ calls) s (r.answer ∷ answers) end

-- The promise (02, request 13).
pub record EitherEngine : Type 0 where
  -- answers, record, ring and memory are those of the engine's list (Engine), of which demand 3 speaks
  pub as_list : (calls : List Call) (s : State) (answers : List Answer) (end : State) → PerformedAll calls s answers end →
      (answers ≡ answers_of calls s) × (end ≡ state_after calls s)
  -- so they are the same, however the runs are shared out between the two
  pub same : (calls : List Call) (s : State) (answers answers' : List Answer) (end end' : State) →
      PerformedAll calls s answers end → PerformedAll calls s answers' end' → (answers ≡ answers') × (end ≡ end')
