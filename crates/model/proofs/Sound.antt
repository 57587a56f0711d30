-- Windows lie past the common area, inside memory and apart; every waiting batch is of an open client. Each call keeps this, and a client that
-- stays open keeps its window.
use mathlib.Core.Path.{◌≡◌, refl, sym, ap, ◌∙◌}
use mathlib.Core.List.{List, [], ◌∷◌, ◌++◌, Memᴰ}
use mathlib.Core.Bool.{Bool, true, cond, true≢false}
use mathlib.Core.Logic.{⊎_elim}
use Prim.Native.Nat.{ℕ, ◌+◌, ◌≤◌}
use native.Mathlib.Omega.{arith}
use lib.ListN.{length, get_or, length-set}
use lib.Dec.{eqb}
use borrow.Author.Tests.{eq-eqb}
use Rattle.model.specs.Windows.{Window, In}
use Rattle.model.specs.Calls.{Setup, Call}
use Rattle.model.specs.BatchSemantics.{BatchSemantics, WindowInMemory}
use Rattle.model.specs.State.{Batch, Staging, idle, staging, staged_by, Place, free, is_taken, window_in, Model, initial_model, place_of, is_open, window_of, next_client, count_of}
use Rattle.model.specs.Model.{Step, open_step, close_step, step, after}
use Rattle.model.specs.Properties.{Proper, Tenanted}
use Rattle.model.proofs.Tests.{apart_of}
use Rattle.model.proofs.Refusals.{OpenAllowed}
use Rattle.model.proofs.Clients.{none_open, open_apart, next_in, old_place, new-place, old_or_new, kept-place, not-closed}
use Rattle.model.proofs.Cases.{step_cases}

-- ---- batches of open clients

abbrev pub Named : (ℕ → Bool) → List Batch → Type 0
Named open? [] = Unit {0}
Named open? (b ∷ bs) = (open? b.client ≡ true) × Named open? bs

named_more : (p q : ℕ → Bool) → ((k : ℕ) → p k ≡ true → q k ≡ true) → (bs : List Batch) → Named p bs → Named q bs
named_more p q f [] r = tt
named_more p q f (b ∷ bs) r = (f b.client r.0, named_more p q f bs r.1)

named-append : (p : ℕ → Bool) (xs ys : List Batch) → Named p xs → Named p ys → Named p (xs ++ ys)
named-append p [] ys r q = q
named-append p (x ∷ xs) ys r q = (r.0, named-append p xs ys r.1 q)

proper_more : (setup : Setup) (p q : ℕ → Bool) (g : Staging) → ((k : ℕ) → staged_by g k ≡ true → p k ≡ true → q k ≡ true) → Proper setup p g → Proper setup q g
proper_more setup p q idle f r = tt
proper_more setup p q (staging k n x) f r = (f k (eq-eqb k k refl) r.0, r.1, r.2)

-- ---- windows

abbrev pub window_at : List Place → ℕ → Window
window_at places k = window_in (get_or places k free)

abbrev pub Taken : List Place → ℕ → Type 0
Taken places k = is_taken (get_or places k free) ≡ true

pub record Good (setup : Setup) (places : List Place) : Type 0 where
  pub four : length places ≡ 4
  pub past : (k : ℕ) → Taken places k → setup.common ≤ (window_at places k).start
  pub fits : (k : ℕ) → Taken places k → (window_at places k).start + (window_at places k).length ≤ setup.memory
  pub apart : (j k i : ℕ) → Taken places j → Taken places k → ¬ (j ≡ k) → In (window_at places j) i → In (window_at places k) i → ⊥

module _ (setup : Setup) (model : Model) (w : Window) (G : Good setup model.places) (A : OpenAllowed setup model w) where
  new_apart : (k i : ℕ) → is_open model k ≡ true → In w i → In (window_of model k) i → ⊥
  new_apart k i h = apart_of w (window_of model k) i (open_apart model w A.apart k h)

  good_open : Good setup (open_step model w).after.places
  good_open =
      let room = next_in model G.four A.few in
      let old = old_place model w room in
      let new = new-place model w room in
      let which = old_or_new model w room in
      record {
        four = length-set model.places _ _ ∙ G.four;
        past = λ k h. ⊎_elim (λ (l : is_open model k ≡ true). rw (old k l) (G.past k l)) (λ (e : k ≡ next_client model). rw (e, new) A.past) (which k h);
        fits = λ k h. ⊎_elim (λ (l : is_open model k ≡ true). rw (old k l) (G.fits k l)) (λ (e : k ≡ next_client model). rw (e, new) A.fits) (which k h);
        apart = λ j k i hj hk ne p q.
            ⊎_elim
            (λ (lj : is_open model j ≡ true). ⊎_elim
            (λ (lk : is_open model k ≡ true). G.apart j k i lj lk ne (rw (old j lj) at p) (rw (old k lk) at q))
            (λ (ek : k ≡ next_client model). new_apart j i lj (rw (ek, new) at q) (rw (old j lj) at p))
            (which k hk))
            (λ (ej : j ≡ next_client model). ⊎_elim
            (λ (lk : is_open model k ≡ true). new_apart k i lk (rw (ej, new) at p) (rw (old k lk) at q))
            (λ (ek : k ≡ next_client model). ne (ej ∙ sym ek))
            (which k hk))
            (which j hj);
      }

good-close : (setup : Setup) (model : Model) (d : ℕ) → Good setup model.places → Good setup (close_step model d).after.places
good-close setup model d G =
    let was : (k : ℕ) → is_open (close_step model d).after k ≡ true → place_of (close_step model d).after k ≡ place_of model k = λ k h. kept-place model d k (not-closed model d k h) in
    record {
      four = length-set model.places _ _ ∙ G.four;
      past = λ k h. rw (was k h) (G.past k (rw (was k h) at h));
      fits = λ k h. rw (was k h) (G.fits k (rw (was k h) at h));
      apart = λ j k i hj hk ne p q. G.apart j k i (rw (was j hj) at hj) (rw (was k hk) at hk) ne (rw (was j hj) at p) (rw (was k hk) at q);
    }

-- ---- the model

pub record Sound (setup : Setup) (model : Model) : Type 0 where
  pub good : Good setup model.places
  pub named : Named (is_open model) model.waiting
  pub proper : Proper setup (is_open model) model.staged

pub fresh_sound : (setup : Setup) (memory : List ℕ) → Sound setup (initial_model memory)
fresh_sound setup memory = record {
  good = record {
    four = refl;
    past = λ k h. absurd (none_open memory k h);
    fits = λ k h. absurd (none_open memory k h);
    apart = λ j k i h _ _ _ _. none_open memory j h;
  };
  named = tt;
  proper = tt;
}

-- an open client's window, in a memory of the set-up length
pub fitted : (setup : Setup) (model : Model) → Sound setup model → length model.memory ≡ setup.memory → (k : ℕ) → is_open model k ≡ true → WindowInMemory (window_of model k) setup.common model.memory
fitted setup model S e k h = (S.good.past k h, rw e (S.good.fits k h))

-- none of the batches is the client's
pub none-own : (b : Batch) (bs : List Batch) (d : ℕ) → count_of d (b ∷ bs) ≡ 0 → ¬ (b.client ≡ d) × (count_of d bs ≡ 0)
unfolding count_of
none-own b bs d e = (λ q. let f : ◌≡◌ {A = ℕ} (cond (eqb b.client d) 1 0) 1 = rw (eq-eqb b.client d q) in omega arith, omega arith)

named-close : (model : Model) (d : ℕ) (bs : List Batch) → count_of d bs ≡ 0 → Named (is_open model) bs → Named (is_open (close_step model d).after) bs
named-close model d [] e r = tt
named-close model d (b ∷ bs) e r =
    let n = none-own b bs d e in
    (rw (kept-place model d b.client n.0) r.0, named-close model d bs n.1 r.1)

module _ (way : BatchSemantics) (setup : Setup) (ring : ℕ) where
  pub step-sound : (c : Call) (model : Model) → Sound setup model → Sound setup (step way setup ring c model).after
  step-sound c model S = step_cases way setup ring model (λ s. Sound setup s.after) c (record {
    staging = λ a g _ _ f. record { good = S.good; named = S.named; proper = f S.proper };
    entering = λ k x _ h _. record { good = S.good; named = named-append (is_open model) model.waiting _ S.named (h, tt); proper = tt };
    opening = λ w _ A.
        let stays : (k : ℕ) → is_open model k ≡ true → is_open (open_step model w).after k ≡ true = λ k h. rw (old_place model w (next_in model S.good.four A.few) k h) h in
        record {
          good = good_open setup model w S.good A;
          named = named_more (is_open model) _ stays model.waiting S.named;
          proper = proper_more setup (is_open model) _ model.staged (λ k _. stays k) S.proper;
        };
    running = λ b bs _ e _. record { good = S.good; named = (rw e at S.named).1; proper = S.proper };
    closing = λ d _ A. record {
      good = good-close setup model d S.good;
      named = named-close model d model.waiting A.none-waiting S.named;
      proper = proper_more setup (is_open model) _ model.staged
          (λ k e h. rw (kept-place model d k (λ z. true≢false (sym e ∙ ap (staged_by model.staged) z ∙ A.none_staged))) h)
          S.proper;
    };
  })

  pub after-sound : (cs : List Call) (model : Model) → Sound setup model → Sound setup (after way setup ring cs model)
  unfolding after
  after-sound [] model S = S
  after-sound (c ∷ cs) model S = after-sound cs (step way setup ring c model).after (step-sound c model S)

  -- a client that is open before and after a call keeps its window
  abbrev pub Keeps : Model → Step → Type 0
  Keeps model s = (k : ℕ) → is_open model k ≡ true → is_open s.after k ≡ true → place_of s.after k ≡ place_of model k

  pub step_keeps : (c : Call) (model : Model) → Sound setup model → Keeps model (step way setup ring c model)
  step_keeps c model S = step_cases way setup ring model (Keeps model) c (record {
    staging = λ a g _ _ _ k _ _. refl;
    entering = λ j x _ _ _ k _ _. refl;
    opening = λ w _ A k h _. old_place model w (next_in model S.good.four A.few) k h;
    running = λ b bs _ e _ k _ _. refl;
    closing = λ d _ A k _ h. kept-place model d k (not-closed model d k h);
  })

  -- ---- no batch outlives its tenancy

  named-all : (p : ℕ → Bool) (bs : List Batch) → Named p bs → (b : Batch) → Memᴰ b bs → p b.client ≡ true
  named-all p [] r b x'' = elim x'' [ ]
  named-all p (x ∷ bs) r b (Memᴰ.head e) = rw e r.0
  named-all p (x ∷ bs) r b (Memᴰ.tail m) = named-all p bs r.1 b m

  pub tenanted : (calls : List Call) (memory : List ℕ) → Tenanted way setup ring calls memory
  tenanted calls memory =
      let S = after-sound calls (initial_model memory) (fresh_sound setup memory) in
      record { waiting = named-all _ _ S.named; staged = S.proper }
