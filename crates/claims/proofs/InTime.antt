-- An accepted batch is completed in time: the completions name the executed batches, in order.
use mathlib.Core.Path.{◌≡◌, ap, sym, ◌∙◌}
use mathlib.Core.List.Memᴰ
use mathlib.Core.List.{List, [], ◌∷◌, ◌++◌, Memᴰ}
use mathlib.Core.Logic.{◌⊎◌, inl, inr}
use Prim.Native.Nat.{ℕ, zero, suc}
use lib.ListN.{length, take}
use Rattle.model.specs.Calls.{Setup, Call, opens, submit, run, pending, begin, piece, cancel, close, CompletionStatus, Answer, completed}
use Rattle.model.specs.BatchSemantics.{BatchSemantics}
use Rattle.model.specs.State.{Batch, Staging, idle, staging, Model}
use Rattle.model.specs.Refusals.{refusal}
use Rattle.model.specs.Model.{Step, run_step, piece_step, effect, step, answers, executed, model_after_all}
use Rattle.model.specs.Properties.{HandedIn, whole, pieces}
use Rattle.model.proofs.Refusals.{unless_cases}
use Rattle.model.proofs.Tests.{cond_cases}
use lib.Dec.{eqb}
use Rattle.claims.specs.ModelProperties.{batch_semantics}
use Rattle.claims.specs.Engine.{perform_call, SetUpAccepted}
use Rattle.model.specs.Machine.{BoundedWaiting}
use Rattle.claims.specs.Demand3.{engine_machine, completed_of, final_state, HandsIn, submitted, last-piece, Completed}
use Rattle.claims.proofs.ModelProperties.{of-model}
use Rattle.claims.proofs.Simulation.{step_simulates, calls_simulate, at-end}

-- completions of these batches, one of each, in order
data Names : List Answer → List Batch → Type 0 where
  nil : Names [] []
  cons : (b : Batch) (v : CompletionStatus) {reports : List Answer} {bs : List Batch} → Names reports bs → Names (completed b.client b.ticket v ∷ reports) (b ∷ bs)

-- of a batch among the first k there is a completion among the first k
abbrev Reported : Batch → List Answer → Type 0
Reported b reports = (v : CompletionStatus) × Memᴰ (completed b.client b.ticket v) reports

later : (b : Batch) (a : Answer) (reports : List Answer) → Reported b reports → Reported b (a ∷ reports)
later b a reports t = (t.0, Memᴰ.tail t.1)

named : (k : ℕ) (b : Batch) {reports : List Answer} {bs : List Batch} → Names reports bs → Memᴰ b (take k bs) → Reported b (take k reports)
named zero b n m = absurd (Memᴰ.not-nil m)
named (suc k) b nil m = absurd (Memᴰ.not-nil m)
named (suc k) b (cons c v {reports} {bs} n) m = go (Memᴰ.cases_cons m) (λ h. named k b n h)
  where
    go : (b ≡ c) ⊎ Memᴰ b (take k bs) → (Memᴰ b (take k bs) → Reported b (take k reports)) → Reported b (completed c.client c.ticket v ∷ take k reports)
    go (inl e) f = (v, Memᴰ.head (ap (λ (x : Batch). completed x.client x.ticket v) e))
    go (inr h) f = later b (completed c.client c.ticket v) (take k reports) (f h)

-- ---- each call of the model completes what it executes

module _ (way : BatchSemantics) (setup : Setup) (ring : ℕ) where
  abbrev One : Step → Type 0
  One s = (reports : List Answer) (bs : List Batch) → Names (completed_of reports) bs → Names (completed_of (s.answer ∷ reports)) (s.executed ++ bs)

  step-one : (c : Call) (model : Model) → One (step way setup ring c model)
  unfolding effect completed_of
  step-one (opens w) model = unless_cases One (refusal setup ring model (opens w)) model _ (λ e reports bs n. n) (λ k reports bs n. n)
  step-one (submit client bytes) model = unless_cases One (refusal setup ring model (submit client bytes)) model _ (λ e reports bs n. n) (λ k reports bs n. n)
  step-one run model = unless_cases One (refusal setup ring model run) model _ (λ e. go model.waiting) (λ k reports bs n. n)
    where
      go : (bs : List Batch) → One (run_step way setup.common model bs)
      go [] reports bs n = n
      go (b ∷ rest) reports bs n = cons b _ n
  step-one (begin client total) model = unless_cases One (refusal setup ring model (begin client total)) model _ (λ e reports bs n. n) (λ k reports bs n. n)
  step-one (piece client bytes) model = unless_cases One (refusal setup ring model (piece client bytes)) model _ (λ e. staged model.staged) (λ k reports bs n. n)
    where
      staged : (g : Staging) → One (piece_step model g bytes)
      staged idle = λ reports bs n. n
      staged (staging d total before) = cond_cases One (eqb (length (before ++ bytes)) total) _ _ (λ t reports bs n. n) (λ t reports bs n. n)
  step-one (cancel client) model = unless_cases One (refusal setup ring model (cancel client)) model _ (λ e reports bs n. n) (λ k reports bs n. n)
  step-one (close client) model = unless_cases One (refusal setup ring model (close client)) model _ (λ e reports bs n. n) (λ k reports bs n. n)
  step-one (pending client) model = unless_cases One (refusal setup ring model (pending client)) model _ (λ e reports bs n. n) (λ k reports bs n. n)

  all_named : (cs : List Call) (model : Model) → Names (completed_of (answers way setup ring cs model)) (executed way setup ring cs model)
  unfolding answers executed completed_of
  all_named [] model = nil
  all_named (c ∷ cs) model =
      let next : Model = (step way setup ring c model).after in
      step-one c model (answers way setup ring cs next) (executed way setup ring cs next) (all_named cs next)

-- ---- and the engine answers as the model does

-- what makes a batch ready in the model hands it in for the client that the call names
own : (model : Model) (call : Call) (b : Batch) → HandedIn model call b → HandsIn call b.client
own model call b (whole client ticket bytes) = submitted client bytes
own model call b (pieces client ticket total before bytes e) = last-piece client bytes

-- with the batch's ticket and the answers given otherwise
among-answers : (b : Batch) (ticket : ℕ) (v : CompletionStatus) (reports answers' : List Answer) → b.ticket ≡ ticket → answers' ≡ reports →
    Memᴰ (completed b.client b.ticket v) (take 8 (completed_of reports)) → Memᴰ (completed b.client ticket v) (take 8 (completed_of answers'))
among-answers b ticket v reports answers' t same m = rw (same, ← t) m

module _ (setup : Setup) (ring : List ℕ) (A : SetUpAccepted setup) (calls later : List Call) (memory : List ℕ) where
  abbrev n : ℕ
  n = length ring

  abbrev model : Model
  model = model_after_all (batch_semantics setup) setup n calls memory

  pub in_time : BoundedWaiting engine_machine (final_state setup ring calls memory) later (Completed setup ring calls memory later)
  in_time call ticket a h =
      let first : Step = step (batch_semantics setup) setup n call model in
      let q = step_simulates setup n call model (final_state setup ring calls memory) (at-end setup ring A calls memory) in
      let same = (calls_simulate setup n later first.after (perform_call call (final_state setup ring calls memory)).after q.1).0 in
      let among = (of-model setup n).in_time calls later memory call ticket (sym q.0 ∙ a) (rw same at h) in
      let t = named 8 among.batch (all_named (batch_semantics setup) setup n later first.after) among.soon in
      record {
        client = among.batch.client;
        own = own model call among.batch among.own;
        status = t.0;
        soon = among-answers among.batch ticket t.0 _ _ among.numbered same t.1;
      }
