-- Whichever engine makes each run, a list of calls is the engine's list: both promise the same of one run.
use mathlib.Core.Path.{◌≡◌, refl, sym, ap, ap₂, ◌∙◌}
use mathlib.Core.List.{List, ◌∷◌}
use Prim.Native.Nat.{ℕ}
use Rattle.engine.specs.declared.RunResult.{RunResult}
use Rattle.model.specs.Calls.{Call, Answer}
use Rattle.claims.specs.Engine.{State, CallResult, run_call, perform_call, answers_of, state_after}
use Rattle.claims.specs.EitherEngine.{Performed, by_engine, shared, PerformedAll, nil, cons, EitherEngine}

one : (call : Call) (s : State) (r : CallResult) → Performed call s r → r ≡ perform_call call s
unfolding perform_call
one _ _ _ (by_engine renderer s r memory promised) = ap₂ (λ (x : RunResult) (m : List ℕ). run_call s x m) promised.0 promised.1
one _ _ _ (shared call s) = refl

as_list : (calls : List Call) (s : State) (answers : List Answer) (end : State) → PerformedAll calls s answers end → (answers ≡ answers_of calls s) × (end ≡ state_after calls s)
unfolding answers_of state_after
as_list _ _ _ _ (nil s) = (refl, refl)
as_list _ _ _ _ (cons call calls s r answers end p rest) =
    let e : r ≡ perform_call call s = one call s r p in
    let q = as_list calls r.after answers end rest in (
      ap₂ (λ (a : Answer) (others : List Answer). a ∷ others) (ap (λ (x : CallResult). x.answer) e) (q.0 ∙ ap (λ (x : CallResult). answers_of calls x.after) e),
      q.1 ∙ ap (λ (x : CallResult). state_after calls x.after) e,
    )

pub either-engine : EitherEngine
either-engine = record {
  as_list = as_list;
  same = λ calls s answers answers' end end' p q.
      let a = as_list calls s answers end p in
      let b = as_list calls s answers' end' q in
      (a.0 ∙ sym b.0, a.1 ∙ sym b.1);
}
