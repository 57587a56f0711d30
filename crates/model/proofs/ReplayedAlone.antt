-- A window holds what its tenancy's own executed batches make of memory as the opening found it; a byte in no window is zero where a window was
-- closed, and else as at the start.
use mathlib.Core.Path.{◌≡◌, refl, sym, ap, ◌∙◌}
use mathlib.Core.List.{List, [], ◌∷◌, ◌++◌, append_assoc, append-nil}
use mathlib.Core.Bool.{Bool, true, false, cond, or-false, or-true}
use mathlib.Core.Logic.{⊎_elim}
use Prim.Native.Nat.{ℕ, ◌<◌}
use native.Mathlib.Omega.{arith}
use lib.ListN.{length}
use lib.Dec.{eqb}
use borrow.Author.Tests.{eq-eqb, ne_eqb}
use Rattle.model.specs.Windows.{Window, In, byte, contains_any}
use Rattle.model.specs.Calls.{Setup, Call, opens}
use Rattle.model.specs.BatchSemantics.{BatchSemantics, WindowInMemory, SameReadable, LocalAction, Confined}
use Rattle.model.specs.State.{Batch, Place, taken, window_in, Model, initial_model, place_of, is_open, window_of, is_taken}
use Rattle.model.specs.Model.{Step, step, after, executed, closed, model_after_all}
use Rattle.model.specs.Tenancy.{batches_of, draw_batches, left_over, OpenThroughout, entered, Tenancy, replayed_alone}
use Rattle.model.specs.Machine.{model_machine, Isolation}
use Rattle.model.proofs.Tests.{by_eq, by_in, contains_in, contains_out, contains-append, apart_of}
use Rattle.model.proofs.Clients.{open_apart, next_in, stays-owned, kept-place, not-closed}
use Rattle.model.proofs.Locality.{zero_local, zero_in}
use Rattle.model.proofs.Cases.{step_cases}
use Rattle.model.proofs.Sound.{Taken, window_at, Sound, fresh_sound, fitted, step-sound, step_keeps}
use Rattle.model.proofs.Tenancies.{admission, open_now, after-append, entered-sound, entered-place, tenant_place, resides, only}

-- ---- a client's own batches

own-more : (k : ℕ) (log : List Batch) (b : Batch) → b.client ≡ k → batches_of k (log ++ (b ∷ [])) ≡ batches_of k log ++ (b.bytes ∷ [])
unfolding batches_of
own-more k [] b e = rw (eq-eqb b.client k e)
own-more k (v ∷ log) b e = rw (own-more k log b e) (go (eqb v.client k))
  where
    go : (t : Bool) → cond t (v.bytes ∷ (batches_of k log ++ (b.bytes ∷ []))) (batches_of k log ++ (b.bytes ∷ [])) ≡ cond t (v.bytes ∷ batches_of k log) (batches_of k log) ++ (b.bytes ∷ [])
    go true = refl
    go false = refl

own_less : (k : ℕ) (log : List Batch) (b : Batch) → ¬ (b.client ≡ k) → batches_of k (log ++ (b ∷ [])) ≡ batches_of k log
unfolding batches_of
own_less k [] b e = rw (ne_eqb b.client k e)
own_less k (v ∷ log) b e = rw (own_less k log b e)

module _ (way : BatchSemantics) (L : Confined way) (common : ℕ) (w : Window) where
  draw-more : (xs : List (List ℕ)) (x : List ℕ) (m : List ℕ) → draw_batches way common w (xs ++ (x ∷ [])) m ≡ way.draw w common x (draw_batches way common w xs m)
  unfolding draw_batches
  draw-more [] x m = refl
  draw-more (y ∷ xs) x m = draw-more xs x (way.draw w common y m)

  draw-sized : (xs : List (List ℕ)) (m : List ℕ) → WindowInMemory w common m → length (draw_batches way common w xs m) ≡ length m
  unfolding draw_batches
  draw-sized [] m h = refl
  draw-sized (x ∷ xs) m h = let s = (L w common x).sized m h in draw-sized xs (way.draw w common x m) (h.0, rw s h.1) ∙ s

  draw-outside : (xs : List (List ℕ)) (m : List ℕ) → WindowInMemory w common m → (i : ℕ) → ¬ (In w i) → byte (draw_batches way common w xs m) i ≡ byte m i
  unfolding draw_batches
  draw-outside [] m h i o = refl
  draw-outside (x ∷ xs) m h i o =
      let s = (L w common x).sized m h in
      draw-outside xs (way.draw w common x m) (h.0, rw s h.1) i o ∙ (L w common x).outside m h i o

-- ---- one tenancy: client d with window v, on memory m₀ as the opening found it; log is what has been executed since

module _ (way : BatchSemantics) (L : Confined way) (setup : Setup) (ring : ℕ) (d : ℕ) (v : Window) (m₀ : List ℕ) where
  record Kept (log : List Batch) (memory : List ℕ) : Type 0 where
    window : (i : ℕ) → In v i → byte memory i ≡ byte (draw_batches way setup.common v (batches_of d log) m₀) i
    common : (i : ℕ) → i < setup.common → byte memory i ≡ byte m₀ i
    size : length memory ≡ length m₀

  -- drawing or filling in a window past common and apart
  kept-apart : (log : List Batch) (memory : List ℕ) (w : Window) (f : List ℕ → List ℕ) → LocalAction w setup.common f → WindowInMemory w setup.common memory →
      ((i : ℕ) → In v i → In w i → ⊥) → Kept log memory → Kept log (f memory)
  kept-apart log memory w f F fits apart K = record {
    window = λ i p. F.outside memory fits i (apart i p) ∙ K.window i p;
    common = λ i l. F.outside memory fits i (λ o. omega arith) ∙ K.common i l;
    size = F.sized memory fits ∙ K.size;
  }

  -- a batch of its own: made of the same window and common
  kept-own : (log : List Batch) (memory : List ℕ) (b : Batch) → b.client ≡ d → WindowInMemory v setup.common memory → Kept log memory → Kept (log ++ (b ∷ [])) (way.draw v setup.common b.bytes memory)
  kept-own log memory b e fits K =
      let F = L v setup.common b.bytes in
      let fits₀ : WindowInMemory v setup.common m₀ = (fits.0, rw (← K.size) fits.1) in
      let m : List ℕ = draw_batches way setup.common v (batches_of d log) m₀ in
      let same : SameReadable v setup.common memory m = record {
        size = K.size ∙ sym (draw-sized way L setup.common v (batches_of d log) m₀ fits₀);
        window = K.window;
        shared = λ i l. K.common i l ∙ sym (draw-outside way L setup.common v (batches_of d log) m₀ fits₀ i (λ o. omega arith));
      } in
      record {
        window = λ i p. rw (own-more d log b e, draw-more way L setup.common v (batches_of d log) b.bytes m₀) (F.inside memory m fits same i p);
        common = λ i l. F.outside memory fits i (λ o. omega arith) ∙ K.common i l;
        size = F.sized memory fits ∙ K.size;
      }

  abbrev Goes : List Batch → Step → Type 0
  Goes log s = is_open s.after d ≡ true → Kept (log ++ s.executed) s.after.memory

  step_kept : (log : List Batch) (c : Call) (model : Model) → Sound setup model → place_of model d ≡ taken v → Kept log model.memory → Goes log (step way setup ring c model)
  step_kept log c model S e K =
      let h : is_open model d ≡ true = ap is_taken e in
      let apart : (k : ℕ) → is_open model k ≡ true → ¬ (k ≡ d) → (i : ℕ) → In v i → In (window_of model k) i → ⊥ = λ k l n i p q. S.good.apart k d i l h n q (rw e p) in
      step_cases way setup ring model (Goes log) c (record {
        staging = λ a g _ _ _ _. rw append-nil K;
        entering = λ k x _ _ _ _. rw append-nil K;
        opening = λ w _ A _. rw append-nil K;
        running = λ b bs _ q size _.
            let l : is_open model b.client ≡ true = (rw q at S.named).0 in
            let fits = fitted setup model S size b.client l in
            ⊎_elim
            (λ (z : b.client ≡ d). let ev : window_of model b.client ≡ v = rw z (ap window_in e) in rw ev (kept-own log model.memory b z (rw ev at fits) K))
            (λ (n : ¬ (b.client ≡ d)).
            let K' = kept-apart log model.memory (window_of model b.client) _ (L (window_of model b.client) setup.common b.bytes) fits (apart b.client l n) K in
            record { window = λ i p. rw (own_less d log b n) (K'.window i p); common = K'.common; size = K'.size })
            (by_eq b.client d);
        closing = λ k _ A o. rw append-nil
            (kept-apart log model.memory (window_of model k) _ (zero_local (window_of model k) setup.common) (fitted setup model S A.size k A.client_open)
            (apart k A.client_open (λ z. not-closed model k d o (sym z))) K);
      })

  all-kept : (cs : List Call) (log : List Batch) (model : Model) → Sound setup model → place_of model d ≡ taken v → OpenThroughout way setup ring d cs model → Kept log model.memory →
      Kept (log ++ executed way setup ring cs model) (after way setup ring cs model).memory
  unfolding after executed
  all-kept [] log model S e o K = rw append-nil K
  all-kept (c ∷ cs) log model S e o K =
      let s : Step = step way setup ring c model in
      let h : is_open s.after d ≡ true = open_now way setup ring d cs s.after o.1 in
      rw (← append_assoc log s.executed (executed way setup ring cs s.after))
      (all-kept cs (log ++ s.executed) s.after (step-sound way setup ring c model S) (step_keeps way setup ring c model S d o.0 h ∙ e) o.1 (step_kept log c model S e K h))

-- ---- bytes in no window: m₀ is the starting memory, gone are the windows that have been closed

left_in : (gone : List Window) (w : Window) (m : List ℕ) (i : ℕ) → In w i → left_over (gone ++ (w ∷ [])) m i ≡ 0
unfolding contains_any
left_in gone w m i p = rw (contains-append gone (w ∷ []) i, contains_in w i p, or-true (contains_any gone i))

left_out : (gone : List Window) (w : Window) (m : List ℕ) (i : ℕ) → ¬ (In w i) → left_over (gone ++ (w ∷ [])) m i ≡ left_over gone m i
unfolding contains_any
left_out gone w m i p = rw (contains-append gone (w ∷ []) i, contains_out w i p, or-false (contains_any gone i))

module _ (way : BatchSemantics) (L : Confined way) (setup : Setup) (ring : ℕ) (m₀ : List ℕ) where
  record Rest (gone : List Window) (places : List Place) (memory : List ℕ) : Type 0 where
    unowned : (i : ℕ) → ((k : ℕ) → Taken places k → ¬ (In (window_at places k) i)) → byte memory i ≡ left_over gone m₀ i
    common : (i : ℕ) → i < setup.common → byte memory i ≡ byte m₀ i
    size : length memory ≡ length m₀

  abbrev Leaves : List Window → Step → Type 0
  Leaves gone s = Rest (gone ++ s.closed) s.after.places s.after.memory

  step-rest : (gone : List Window) (c : Call) (model : Model) → Sound setup model → Rest gone model.places model.memory → Leaves gone (step way setup ring c model)
  step-rest gone c model S K = step_cases way setup ring model (Leaves gone) c (record {
    staging = λ a g _ _ _. rw append-nil K;
    entering = λ k x _ _ _. rw append-nil K;
    opening = λ w _ A. rw append-nil (record {
      unowned = λ i f. K.unowned i (λ k h p. let o = stays-owned model w (next_in model S.good.four A.few) k i (h, p) in f k o.0 o.1);
      common = K.common;
      size = K.size;
    });
    running = λ b bs _ q size.
        let l : is_open model b.client ≡ true = (rw q at S.named).0 in
        let fits = fitted setup model S size b.client l in
        let F = L (window_of model b.client) setup.common b.bytes in
        rw append-nil (record {
          unowned = λ i f. F.outside model.memory fits i (f b.client l) ∙ K.unowned i f;
          common = λ i p. F.outside model.memory fits i (λ o. omega arith) ∙ K.common i p;
          size = F.sized model.memory fits ∙ K.size;
        });
    closing = λ d _ A.
        let w : Window = window_of model d in
        let fits = fitted setup model S A.size d A.client_open in
        let F = zero_local w setup.common in
        record {
          unowned = λ i f.
              ⊎_elim
              (λ (p : In w i). zero_in w model.memory fits.1 i p ∙ sym (left_in gone w m₀ i p))
              (λ (o : ¬ (In w i)).
              F.outside model.memory fits i o
              ∙ K.unowned i (λ k h p. ⊎_elim
              (λ (z : k ≡ d). o (rw z at p))
              (λ (n : ¬ (k ≡ d)). f k (rw (kept-place model d k n) h) (rw (kept-place model d k n) p))
              (by_eq k d))
              ∙ sym (left_out gone w m₀ i o))
              (by_in w i);
          common = λ i p. F.outside model.memory fits i (λ o. omega arith) ∙ K.common i p;
          size = F.sized model.memory fits ∙ K.size;
        };
  })

  all_rest : (cs : List Call) (gone : List Window) (model : Model) → Sound setup model → Rest gone model.places model.memory →
      Rest (gone ++ closed way setup ring cs model) (after way setup ring cs model).places (after way setup ring cs model).memory
  unfolding after closed
  all_rest [] gone model S K = rw append-nil K
  all_rest (c ∷ cs) gone model S K =
      let s : Step = step way setup ring c model in
      rw (← append_assoc gone s.closed (closed way setup ring cs s.after))
      (all_rest cs (gone ++ s.closed) s.after (step-sound way setup ring c model S) (step-rest gone c model S K))

  rest : (cs : List Call) → Rest (closed way setup ring cs (initial_model m₀)) (model_after_all way setup ring cs m₀).places (model_after_all way setup ring cs m₀).memory
  unfolding contains_any
  rest cs = all_rest cs [] (initial_model m₀) (fresh_sound setup m₀) (record { unowned = λ i f. refl; common = λ i l. refl; size = refl })

  -- ---- the claim

  module _ (before : List Call) (w : Window) (during : List Call) (d : ℕ) (t : Tenancy way setup ring (initial_model m₀) before w during d) where
    opening : (i : ℕ) → In w i → byte (model_after_all way setup ring before m₀).memory i ≡ left_over (closed way setup ring before (initial_model m₀)) m₀ i
    opening i p =
        let start : Model = model_after_all way setup ring before m₀ in
        let A = (admission way setup ring start w d t.admitted).allowed in
        (rest before).unowned i (λ k h q. apart_of w (window_of start k) i (open_apart start w A.apart k h) p q)

    alone : (i : ℕ) → In w i → byte (model_after_all way setup ring (before ++ opens w ∷ during) m₀).memory i ≡ byte (replayed_alone way setup ring (initial_model m₀) before w during d) i
    unfolding after batches_of draw_batches
    alone i p =
        let start : Model = model_after_all way setup ring before m₀ in
        let S : Sound setup (initial_model m₀) = fresh_sound setup m₀ in
        let e : (entered way setup ring (initial_model m₀) before w).memory ≡ start.memory = ap (λ (s : Step). s.after.memory) (admission way setup ring start w d t.admitted).is in
        rw (after-append way setup ring before (opens w ∷ during) (initial_model m₀))
        ((all-kept way L setup ring d w start.memory during [] (entered way setup ring (initial_model m₀) before w)
        (entered-sound way setup ring (initial_model m₀) S before w during d t)
        (entered-place way setup ring (initial_model m₀) S before w during d t)
        t.lasts
        (record { window = λ i _. rw e; common = λ i _. rw e; size = rw e })
        ).window i p)

  pub separate : (cs : List Call) → Isolation way setup ring cs m₀ (model_machine way setup ring) (initial_model m₀)
  separate cs =
      let R = rest cs in
      record {
        resides = resides way setup ring cs m₀;
        only = only way setup ring (initial_model m₀) cs;
        holds = λ d t.
            let e : place_of (model_after_all way setup ring cs m₀) d ≡ taken t.window = rw t.split (tenant_place way setup ring (initial_model m₀) (fresh_sound setup m₀) t.before t.window t.during d t.tenancy) in
            (ap is_taken e, ap window_in e);
        window = λ d t i p. rw t.split (alone t.before t.window t.during d t.tenancy i p);
        found = λ d t i p. opening t.before t.window t.during d t.tenancy i p;
        no_window = λ i f. R.unowned i (λ k h p. f k (h, p));
        common = R.common;
        size = R.size;
      }
