-- Batches are executed in the order accepted, at most eight wait, and an accepted one is taken in time.
use mathlib.Core.Path.{◌≡◌, refl, sym, ap, ◌∙◌}
use mathlib.Core.List.{List, [], ◌∷◌, ◌++◌, append_assoc, append-nil, Memᴰ}
use Prim.Native.Nat.{ℕ, zero, suc, ◌+◌, ◌%◌, ◌≤◌, ◌<◌}
use native.Mathlib.Omega.{arith}
use native.Mathlib.Nat.{not-suc-le-zero, le_of_suc-le-suc}
use lib.ListN.{length, take, length-append}
use lib.Seq.{take-append-le}
use Rattle.model.specs.Calls.{Setup, Call, Answer, opened, accepted, completed, ready, missing, done, refused, completions}
use Rattle.model.specs.BatchSemantics.{BatchSemantics}
use Rattle.model.specs.State.{Batch, batch, Model, initial_model, total_bytes}
use Rattle.model.specs.Model.{Step, step, answers, after, executed, model_after_all}
use Rattle.model.specs.Machine.{model_machine, BoundedWaiting}
use Rattle.model.specs.Properties.{ConsecutiveTickets, HandedIn, FifoOrder, Executed}
use Rattle.model.proofs.Cases.{Fits, Plain, step_cases}

-- ---- lists of batches

numbered-snoc : (n : ℕ) (bs : List Batch) (b : Batch) → ConsecutiveTickets n bs → b.ticket ≡ (n + length bs) % 4294967296 → ConsecutiveTickets n (bs ++ (b ∷ []))
numbered-snoc n [] b r e = (e ∙ ap (λ (k : ℕ). k % 4294967296) (let z : n + 0 ≡ n = omega arith in z), tt)
numbered-snoc n (v ∷ bs) b r e =
    (r.0, numbered-snoc (suc n) bs b r.1 (e ∙ ap (λ (k : ℕ). k % 4294967296) (let z : n + suc (length bs) ≡ suc n + length bs = omega arith in z)))

mem_take : (n : ℕ) (bs : List Batch) (b : Batch) (rest : List Batch) → length bs < n → Memᴰ b (take n (bs ++ (b ∷ rest)))
mem_take zero bs b rest h = absurd (not-suc-le-zero h)
mem_take (suc n) [] b rest h = Memᴰ.head refl
mem_take (suc n) (v ∷ bs) b rest h = Memᴰ.tail (mem_take n bs b rest (le_of_suc-le-suc h))

-- ---- plain answers

plain-rest : (a : Answer) (rest : List Answer) → Plain a → completions (a ∷ rest) ≡ completions rest
unfolding completions
plain-rest (opened k) rest p = refl
plain-rest (accepted t) rest p = absurd p
plain-rest (completed k t v) rest p = absurd p
plain-rest (ready n) rest p = refl
plain-rest (missing n) rest p = refl
plain-rest done rest p = refl
plain-rest (refused n) rest p = refl

plain_never : (a : Answer) (t : ℕ) → Plain a → a ≡ accepted t → ⊥
plain_never a t p e = rw e at p

module _ (way : BatchSemantics) (setup : Setup) (ring : ℕ) where
  -- ---- tickets, slots and room: log is what has been executed

  record Kept (log : List Batch) (model : Model) : Type 0 where
    all : length (log ++ model.waiting) ≡ model.accepted
    tickets : ConsecutiveTickets 0 (log ++ model.waiting)
    fits : Fits setup model

  abbrev Goes : List Batch → Step → Type 0
  Goes log s = Kept (log ++ s.executed) s.after

  step_kept : (log : List Batch) (c : Call) (model : Model) → Kept log model → Goes log (step way setup ring c model)
  unfolding total_bytes
  step_kept log c model K = step_cases way setup ring model (Goes log) c (record {
    staging = λ a g _ f _. rw append-nil (record { all = K.all; tickets = K.tickets; fits = f K.fits });
    entering = λ k x _ _ f.
        let b : Batch = batch k (model.accepted % 4294967296) x in
        let old : List Batch = log ++ model.waiting in
        rw append-nil (record {
          all = rw (← append_assoc log model.waiting (b ∷ []), length-append old (b ∷ [])) (omega (arith, K.all));
          tickets = rw (← append_assoc log model.waiting (b ∷ [])) (numbered-snoc 0 old b K.tickets (ap (λ (n : ℕ). n % 4294967296) (let z : model.accepted ≡ 0 + length old = omega (arith, K.all) in z)));
          fits = f K.fits;
        });
    opening = λ w _ _. rw append-nil (record { all = K.all; tickets = K.tickets; fits = record { slots = K.fits.slots; room = K.fits.room } });
    running = λ b bs _ e _.
        let s = rw e at K.fits.slots in
        let r = rw e at K.fits.room in
        record {
          all = rw (append_assoc log (b ∷ []) bs) (rw e at K.all);
          tickets = rw (append_assoc log (b ∷ []) bs) (rw e at K.tickets);
          fits = record { slots = omega arith; room = omega arith };
        };
    closing = λ d _ _. rw append-nil (record { all = K.all; tickets = K.tickets; fits = record { slots = K.fits.slots; room = K.fits.room } });
  })

  all-kept : (cs : List Call) (log : List Batch) (model : Model) → Kept log model → Kept (log ++ executed way setup ring cs model) (after way setup ring cs model)
  unfolding after executed
  all-kept [] log model K = rw append-nil K
  all-kept (c ∷ cs) log model K =
      let s : Step = step way setup ring c model in
      rw (← append_assoc log s.executed (executed way setup ring cs s.after)) (all-kept cs (log ++ s.executed) s.after (step_kept log c model K))

  fresh_kept : (memory : List ℕ) → Kept [] (initial_model memory)
  unfolding total_bytes
  fresh_kept memory = record { all = refl; tickets = tt; fits = record { slots = omega arith; room = omega arith } }

  kept : (cs : List Call) (memory : List ℕ) → Kept (executed way setup ring cs (initial_model memory)) (model_after_all way setup ring cs memory)
  kept cs memory = all-kept cs [] (initial_model memory) (fresh_kept memory)

  pub in_order : (cs : List Call) (memory : List ℕ) → FifoOrder way setup ring cs memory
  in_order cs memory =
      let K = kept cs memory in
      record { all = K.all; tickets = K.tickets; slots = K.fits.slots; room = K.fits.room }

  -- ---- what waits is executed first, in order

  abbrev First : Model → List Batch → Model → Type 0
  First model log model' = (later : List Batch) × (log ++ model'.waiting ≡ model.waiting ++ later)

  step-first : (c : Call) (model : Model) → First model (step way setup ring c model).executed (step way setup ring c model).after
  step-first c model =
      let unmoved : model.waiting ≡ model.waiting ++ [] = sym (append-nil model.waiting) in
      step_cases way setup ring model (λ s. First model s.executed s.after) c (record {
        staging = λ a g _ _ _. ([], unmoved);
        entering = λ k x _ _ _. (_, refl);
        opening = λ w _ _. ([], unmoved);
        running = λ b bs _ e _. ([], sym e ∙ unmoved);
        closing = λ d _ _. ([], unmoved);
      })

  all_first : (cs : List Call) (model : Model) → First model (executed way setup ring cs model) (after way setup ring cs model)
  unfolding after executed
  all_first [] model = ([], sym (append-nil model.waiting))
  all_first (c ∷ cs) model =
      let s : Step = step way setup ring c model in
      let p = step-first c model in
      let q = all_first cs s.after in (
        p.0 ++ q.0,
        append_assoc s.executed (executed way setup ring cs s.after) (after way setup ring cs s.after).waiting
            ∙ ap (λ (l : List Batch). s.executed ++ l) q.1
            ∙ sym (append_assoc s.executed s.after.waiting q.0)
            ∙ ap (λ (l : List Batch). l ++ q.0) p.1
            ∙ append_assoc model.waiting p.0 q.0,
      )

  -- ---- each completion is one executed batch

  abbrev One : Step → Type 0
  One s = (rest : List Answer) → completions (s.answer ∷ rest) ≡ length s.executed + completions rest

  step-one : (c : Call) (model : Model) → One (step way setup ring c model)
  unfolding completions
  step-one c model = step_cases way setup ring model One c (record {
    staging = λ a g p _ _ rest. rw (plain-rest a rest p.0) (omega arith);
    entering = λ k x _ _ _ rest. omega arith;
    opening = λ w _ _ rest. omega arith;
    running = λ b bs _ e _ rest. omega arith;
    closing = λ d _ _ rest. omega arith;
  })

  one_each : (cs : List Call) (model : Model) → completions (answers way setup ring cs model) ≡ length (executed way setup ring cs model)
  unfolding answers executed completions
  one_each [] model = refl
  one_each (c ∷ cs) model =
      let s : Step = step way setup ring c model in
      step-one c model (answers way setup ring cs s.after)
      ∙ ap (λ (n : ℕ). length s.executed + n) (one_each cs s.after)
      ∙ sym (length-append s.executed (executed way setup ring cs s.after))

  -- ---- an accepted batch is taken in time

  abbrev Entered : Call → Model → ℕ → Step → Type 0
  Entered c model t s = s.answer ≡ accepted t → (b : Batch) × HandedIn model c b × (b.ticket ≡ t) × (s.after.waiting ≡ model.waiting ++ (b ∷ []))

  entered : (c : Call) (model : Model) (t : ℕ) → Entered c model t (step way setup ring c model)
  entered c model t = step_cases way setup ring model (Entered c model t) c (record {
    staging = λ a g p _ _ e. absurd (plain_never a t p.0 e);
    entering = λ k x o _ _ e. (_, o, cc, refl);
    opening = λ w _ _ e. let z : ◌≡◌ {A = ℕ} 0 1 = cc in absurd (omega arith);
    running = λ b bs _ _ _ e. let z : ◌≡◌ {A = ℕ} 0 1 = cc in absurd (omega arith);
    closing = λ d _ _ e. let z : ◌≡◌ {A = ℕ} 0 1 = cc in absurd (omega arith);
  })

  pub in_time : (before later : List Call) (memory : List ℕ) →
      BoundedWaiting (model_machine way setup ring) (model_after_all way setup ring before memory) later (Executed way setup ring before memory later)
  in_time before later memory c t a h =
      let model : Model = model_after_all way setup ring before memory in
      let s : Step = step way setup ring c model in
      let n = entered c model t a in
      let log : List Batch = executed way setup ring later s.after in
      let rest : List Batch = (after way setup ring later s.after).waiting in
      let f = all_first later s.after in
      let long : 8 ≤ length log = rw (← one_each later s.after) h in
      let few : length s.after.waiting ≤ 8 = omega (arith, (step_kept _ c model (kept before memory)).fits.slots) in
      let slot : length model.waiting < 8 = omega (arith, ap length n.3, length-append model.waiting (n.0 ∷ [])) in
      let e : log ++ rest ≡ model.waiting ++ (n.0 ∷ f.0) =
      f.1 ∙ ap (λ (l : List Batch). l ++ f.0) n.3 ∙ append_assoc model.waiting (n.0 ∷ []) f.0
      in
      record {
        batch = n.0;
        own = n.1;
        numbered = n.2;
        last = n.3;
        soon = rw (← take-append-le 8 log rest long, e) (mem_take 8 model.waiting n.0 f.0 slot);
      }
