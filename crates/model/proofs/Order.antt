-- Batches of different clients may be executed in any order. Each client's own executions, with the openings and closings, make all that its window
-- holds; so two orders that every client sees alike end in the same memory.
use mathlib.Core.Path.{◌≡◌, refl, sym, ap, ap₂, subst, ◌∙◌}
use mathlib.Core.List.{List, [], ◌∷◌, ◌++◌, map, append_assoc, append-nil}
use mathlib.Core.Bool.{Bool, true, false, false≢true, true≢false}
use mathlib.Core.Logic.{◌⊎◌, ⊎_elim, inl, inr}
use Prim.Native.Nat.{ℕ, zero, suc}
use native.Mathlib.Omega.{arith}
use lib.ListN.{length, drop}
use lib.Seq.{ext_get_or, drop-length, drop-append_seam}
use borrow.Author.Tests.{eq-eqb, ne_eqb}
use Rattle.model.specs.Windows.{Window, In, byte}
use Rattle.model.specs.Calls.{Setup, Call, run, CompletionStatus, Answer, opened, accepted, completed, ready, missing, done, refused}
use Rattle.model.specs.BatchSemantics.{BatchSemantics, WindowInMemory, LocalAction, Confined}
use Rattle.model.specs.State.{Batch, Place, free, taken, Model, initial_model, is_open, window_of}
use Rattle.model.specs.Refusals.{refusal, refusal_table, first_holding}
use Rattle.model.specs.Model.{Step, refuse, refuse_or, open_step, run_step, close_step, effect, step, answers, after, model_after_all}
use Rattle.model.specs.Properties.{HandedIn, whole, pieces, Exchange, AnyOrder, AnySubmissions, ReorderedByHand}
use Rattle.model.specs.Tenancy.{batches_of}
use Rattle.model.specs.Order.{Event, opening, closing, job, jobs, seen_by, Reordered, changes, verdicts_of, executions, submissions, AllRun, SameOutcome, Exchanged, ByHand, Lent, run_each, with_waiting}
use Rattle.model.proofs.Tests.{by_eq, by_in}
use Rattle.model.proofs.Refusals.{unless_none}
use Rattle.model.proofs.Clients.{next_in, stays-owned, kept-place}
use Rattle.model.proofs.Locality.{zero_local, zero_in}
use Rattle.model.proofs.Cases.{Plain, step_cases}
use Rattle.model.proofs.Sound.{Taken, window_at, Good, Named, Sound, fresh_sound, fitted, step-sound, after-sound}

-- ---- the one client that may own a byte

abbrev WindowStable : List Place → ℕ → ℕ → Type 0
WindowStable ps k i = Taken ps k × In (window_at ps k) i

holder : (ps : List Place) (i : ℕ) → ((k : ℕ) × WindowStable ps k i) ⊎ ((k : ℕ) → ¬ (WindowStable ps k i))
holder [] i = inr (λ k h. false≢true h.0)
holder (p ∷ ps) i =
    ⊎_elim
    (λ (h : WindowStable (p ∷ ps) 0 i). inl (0, h))
    (λ (o : ¬ (WindowStable (p ∷ ps) 0 i)). ⊎_elim (λ (h : (k : ℕ) × WindowStable ps k i). inl (suc h.0, h.1)) (λ (n : (k : ℕ) → ¬ (WindowStable ps k i)). inr (neither o n)) (holder ps i))
    (first p)
  where
    first : (p : Place) → WindowStable (p ∷ ps) 0 i ⊎ ¬ (WindowStable (p ∷ ps) 0 i)
    first free = inr (λ h. false≢true h.0)
    first (taken w) = ⊎_elim (λ (h : In w i). inl (refl, h)) (λ (o : ¬ (In w i)). inr (λ h. o h.1)) (by_in w i)

    neither : ¬ (WindowStable (p ∷ ps) 0 i) → ((k : ℕ) → ¬ (WindowStable ps k i)) → (k : ℕ) → ¬ (WindowStable (p ∷ ps) k i)
    neither o n zero = o
    neither o n (suc k) = n k

-- there is a client such that no other one owns the byte
abbrev Spared : List Place → ℕ → ℕ → Type 0
Spared ps k i = (j : ℕ) → ¬ (j ≡ k) → ¬ (WindowStable ps j i)

spared : (setup : Setup) (ps : List Place) → Good setup ps → (i : ℕ) → (k : ℕ) × Spared ps k i
spared setup ps G i =
    ⊎_elim
    (λ (h : (k : ℕ) × WindowStable ps k i). (h.0, λ j n g. G.apart j h.0 i g.0 h.1.0 n g.1 h.1.1))
    (λ (n : (k : ℕ) → ¬ (WindowStable ps k i)). (0, λ j _. n j))
    (holder ps i)

-- ---- events replayed, for one client: what it leaves, and what is answered of its batches

module _ (way : BatchSemantics) (common : ℕ) where
  abbrev drawn : ℕ → List ℕ → Model → Model
  drawn k x model =
      record { places = model.places; waiting = model.waiting; staged = model.staged; accepted = model.accepted; memory = way.draw (window_of model k) common x model.memory }

  unfoldable play : List Event → Model → Model
  play [] model = model
  play (opening w ∷ es) model = play es (open_step model w).after
  play (closing k ∷ es) model = play es (close_step model k).after
  play (job k x ∷ es) model = play es (drawn k x model)

  unfoldable judged : List Event → Model → List CompletionStatus
  judged [] model = []
  judged (opening w ∷ es) model = judged es (open_step model w).after
  judged (closing k ∷ es) model = judged es (close_step model k).after
  judged (job k x ∷ es) model = way.verdict (window_of model k) common x ∷ judged es (drawn k x model)

verdicts_of-plain : (k : ℕ) (a : Answer) (rest : List Answer) → Plain a → verdicts_of k (a ∷ rest) ≡ verdicts_of k rest
unfolding verdicts_of
verdicts_of-plain k (opened d) rest p = refl
verdicts_of-plain k (accepted t) rest p = absurd p
verdicts_of-plain k (completed d t v) rest p = absurd p
verdicts_of-plain k (ready n) rest p = refl
verdicts_of-plain k (missing n) rest p = refl
verdicts_of-plain k done rest p = refl
verdicts_of-plain k (refused n) rest p = refl

handed_still : (model : Model) (c : Call) (b : Batch) (a : Answer) → HandedIn model c b → changes c a ≡ []
unfolding changes
handed_still model _ _ a (whole client ticket bytes) = refl
handed_still model _ _ a (pieces client ticket total before bytes e) = refl

module _ (way : BatchSemantics) (L : Confined way) (setup : Setup) (ring : ℕ) (k : ℕ) where
  -- the world in which only client k draws has the same clients, and the same bytes where no other one's window is
  record Shadow (ps : List Place) (m : List ℕ) (world : Model) : Type 0 where
    places : ps ≡ world.places
    size : length m ≡ length world.memory
    bytes : (i : ℕ) → Spared ps k i → byte m i ≡ byte world.memory i

  -- what it replays to, and is answered, of these events; answers and final are of the calls
  abbrev Follows : List Event → List Answer → (final_model world : Model) → Type 0
  Follows es same_answers final_model world =
      Shadow final_model.places final_model.memory (play way setup.common (seen_by k es) world) × (verdicts_of k same_answers ≡ judged way setup.common (seen_by k es) world)

  module _ (model world : Model) (S : Sound setup model) (K : Shadow model.places model.memory world) where
    ev : (d : ℕ) → window_of model d ≡ window_of world d
    ev d = rw K.places

    -- one window is changed in both
    both_changed : (v : Window) (f : List ℕ → List ℕ) → LocalAction v setup.common f → WindowInMemory v setup.common model.memory → ((i : ℕ) → In v i → byte (f model.memory) i ≡ byte (f world.memory) i) →
        (length (f model.memory) ≡ length (f world.memory)) × ((i : ℕ) → (¬ (In v i) → Spared model.places k i) → byte (f model.memory) i ≡ byte (f world.memory) i)
    both_changed v f F fits same =
        let fits' : WindowInMemory v setup.common world.memory = (fits.0, rw (← K.size) fits.1) in (
          F.sized model.memory fits ∙ K.size ∙ sym (F.sized world.memory fits'),
          λ i o. ⊎_elim (same i) (λ (q : ¬ (In v i)). F.outside model.memory fits i q ∙ K.bytes i (o q) ∙ sym (F.outside world.memory fits' i q)) (by_in v i),
        )

    own-drawn : (d : ℕ) (x : List ℕ) → d ≡ k → is_open model d ≡ true → WindowInMemory (window_of model d) setup.common model.memory →
        Shadow model.places (way.draw (window_of model d) setup.common x model.memory) (drawn way setup.common d x world)
    own-drawn d x e h fits =
        let F = L (window_of model d) setup.common x in
        let B = both_changed (window_of model d) _ F fits (F.inside model.memory world.memory fits (record {
          size = K.size;
          window = λ j q. K.bytes j (λ l n g. S.good.apart l d j g.0 h (λ z. n (z ∙ e)) g.1 q);
          shared = λ j q. K.bytes j (λ l n g. let past = S.good.past l g.0 in omega arith);
        })) in
        record { places = K.places; size = rw (← ev d) B.0; bytes = λ i o. rw (← ev d) (B.1 i (λ _. o)) }

    other-drawn : (d : ℕ) (x : List ℕ) → ¬ (d ≡ k) → is_open model d ≡ true → WindowInMemory (window_of model d) setup.common model.memory →
        Shadow model.places (way.draw (window_of model d) setup.common x model.memory) world
    other-drawn d x n h fits =
        let F = L (window_of model d) setup.common x in
        record {
          places = K.places;
          size = F.sized model.memory fits ∙ K.size;
          bytes = λ i o. F.outside model.memory fits i (λ p. o d n (h, p)) ∙ K.bytes i o;
        }

    closed-both : (d : ℕ) → WindowInMemory (window_of model d) setup.common model.memory → Shadow (close_step model d).after.places (close_step model d).after.memory (close_step world d).after
    closed-both d fits =
        let v : Window = window_of model d in
        let B = both_changed v _ (zero_local v setup.common) fits (λ i p. zero_in v model.memory fits.1 i p ∙ sym (zero_in v world.memory (rw (← K.size) fits.1) i p)) in
        record {
          places = rw K.places;
          size = rw (← ev d) B.0;
          bytes = λ i o. rw (← ev d) (B.1 i (λ q j n g. o j n (rw (kept-place model d j (λ z. q (rw z at g.1))) g)));
        }

    abbrev Goes : Call → List Event → List Answer → Model → Step → Type 0
    Goes c es same_answers final_model s = ((next : Model) → Shadow s.after.places s.after.memory next → Follows es same_answers final_model next) →
        Follows (changes c s.answer ++ (jobs s.executed ++ es)) (s.answer ∷ same_answers) final_model world

    goes : (c : Call) (es : List Event) (same_answers : List Answer) (final_model : Model) → Goes c es same_answers final_model (step way setup ring c model)
    unfolding changes jobs seen_by play judged verdicts_of
    goes c es same_answers final_model = step_cases way setup ring model (Goes c es same_answers final_model) c (record {
      staging = λ a g p _ _ f. rw (p.1, verdicts_of-plain k a same_answers p.0) (f world K);
      entering = λ d x o _ _ f. rw (handed_still model c _ _ o) (f world K);
      opening = λ w e A f. rw e (f (open_step world w).after (record {
        places = rw K.places;
        size = K.size;
        bytes = λ i o. K.bytes i (λ j n g. o j n (stays-owned model w (next_in model S.good.four A.few) j i g));
      }));
      running = λ b bs r q size f.
          let h : is_open model b.client ≡ true = (rw q at S.named).0 in
          let fits = fitted setup model S size b.client h in
          ⊎_elim
          (λ (e : b.client ≡ k).
          let F = f (drawn way setup.common b.client b.bytes world) (own-drawn b.client b.bytes e h fits) in
          rw (r, eq-eqb b.client k e) (F.0, ap₂ (λ v vs. v ∷ vs) (ap (λ v. way.verdict v setup.common b.bytes) (ev b.client)) F.1))
          (λ (n : ¬ (b.client ≡ k)). rw (r, ne_eqb b.client k n) (f world (other-drawn b.client b.bytes n h fits)))
          (by_eq b.client k);
      closing = λ d e A f. rw e (f (close_step world d).after (closed-both d (fitted setup model S A.size d A.client_open)));
    })

  follows : (cs : List Call) (model world : Model) → Sound setup model → Shadow model.places model.memory world →
      Follows (executions way setup ring cs model) (answers way setup ring cs model) (after way setup ring cs model) world
  unfolding after answers executions seen_by play judged verdicts_of
  follows [] model world S K = (K, refl)
  follows (c ∷ cs) model world S K =
      let s : Step = step way setup ring c model in
      goes model world S K c (executions way setup ring cs s.after) (answers way setup ring cs s.after) (after way setup ring cs s.after)
      (λ next K'. follows cs s.after next (step-sound way setup ring c model S) K')

-- ---- two orders

module _ (way : BatchSemantics) (L : Confined way) (setup : Setup) (ring : ℕ) where
  same_outcome : (cs cs' : List Call) (model model' : Model) → Sound setup model → Sound setup model' → model.places ≡ model'.places → model.memory ≡ model'.memory →
      Reordered (executions way setup ring cs model) (executions way setup ring cs' model') → SameOutcome way setup ring cs cs' model model'
  same_outcome cs cs' model model' S S' e q r =
      let A : Model = after way setup ring cs model in
      let A' : Model = after way setup ring cs' model' in
      let es : List Event = executions way setup ring cs model in
      let f : (k : ℕ) → Follows way L setup ring k es (answers way setup ring cs model) A model = λ k.
      follows way L setup ring k cs model model S (record { places = refl; size = refl; bytes = λ i o. refl })
      in
      let f' : (k : ℕ) → Follows way L setup ring k es (answers way setup ring cs' model') A' model = λ k. rw (r k)
      (follows way L setup ring k cs' model' model S' (record { places = sym e; size = ap length (sym q); bytes = λ i o. ap (λ (m : List ℕ). byte m i) (sym q) }))
      in
      let places : A.places ≡ A'.places = (f 0).0.places ∙ sym (f' 0).0.places in
      record {
        memory = ext_get_or 0 A.memory A'.memory ((f 0).0.size ∙ sym (f' 0).0.size) (λ i _.
            let o = spared setup A.places (after-sound way setup ring cs model S).good i in
            (f o.0).0.bytes i o.1 ∙ sym ((f' o.0).0.bytes i (rw (← places) o.1)));
        verdicts = λ k. (f k).1 ∙ sym (f' k).1;
      }

  pub any_order : (cs cs' : List Call) (memory : List ℕ) → AnyOrder way setup ring cs cs' memory
  any_order cs cs' memory = same_outcome cs cs' (initial_model memory) (initial_model memory) (fresh_sound setup memory) (fresh_sound setup memory) refl refl

-- ---- if all is run, then it is in the order accepted

jobs-more : (bs : List Batch) (b : Batch) → jobs (bs ++ (b ∷ [])) ≡ jobs bs ++ (job b.client b.bytes ∷ [])
unfolding jobs
jobs-more [] b = refl
jobs-more (v ∷ bs) b = ap (λ es. job v.client v.bytes ∷ es) (jobs-more bs b)

never : {A : Type 0} (x : A) {xs : List A} → x ∷ xs ≡ [] → ⊥
never x e = let z : ◌≡◌ {A = ℕ} 0 1 = cc in absurd (omega arith)

drop_more : (bs : List Batch) → drop (suc (length bs)) bs ≡ []
drop_more [] = refl
drop_more (b ∷ bs) = drop_more bs

module _ (way : BatchSemantics) (setup : Setup) (ring : ℕ) where
  abbrev Passes : Call → Model → Step → Type 0
  Passes c model s = (es fs : List Event) → (changes c s.answer ≡ []) ⊎ (model.waiting ≡ []) → jobs s.after.waiting ++ es ≡ fs →
      jobs model.waiting ++ (changes c s.answer ++ (jobs (drop (length model.waiting) s.after.waiting) ++ es)) ≡ changes c s.answer ++ (jobs s.executed ++ fs)

  passes : (c : Call) (model : Model) → Passes c model (step way setup ring c model)
  unfolding jobs changes
  passes c model = step_cases way setup ring model (Passes c model) c (record {
    staging = λ a g p _ _ es fs o e. rw (p.1, drop-length model.waiting) e;
    entering = λ k x o _ _ es fs _ e.
        rw (handed_still model c _ _ o, drop-append_seam model.waiting _)
        (sym (append_assoc (jobs model.waiting) (job k x ∷ []) es) ∙ ap (λ l. l ++ es) (sym (jobs-more model.waiting _)) ∙ e);
    opening = λ w q _ es fs o e. ⊎_elim (λ (z : changes c (open_step model w).answer ≡ []). absurd (never _ (rw q at z))) (λ (z : model.waiting ≡ []). rw (q, z) (ap (λ l. opening w ∷ l) (rw z at e))) o;
    running = λ b bs r q _ es fs _ e. rw (r, q, drop_more bs) (ap (λ l. job b.client b.bytes ∷ l) e);
    closing = λ d q _ es fs o e. ⊎_elim (λ (z : changes c (close_step model d).answer ≡ []). absurd (never _ (rw q at z))) (λ (z : model.waiting ≡ []). rw (q, z) (ap (λ l. closing d ∷ l) (rw z at e))) o;
  })

  in_turn : (cs : List Call) (model : Model) → AllRun way setup ring cs model → jobs model.waiting ++ submissions way setup ring cs model ≡ executions way setup ring cs model
  unfolding submissions executions jobs
  in_turn [] model e = rw e
  in_turn (c ∷ cs) model o = passes c model _ _ o.0 (in_turn cs (step way setup ring c model).after o.1)

pub any_submissions : (way : BatchSemantics) (L : Confined way) (setup : Setup) (ring : ℕ) (cs cs' : List Call) (memory : List ℕ) → AnySubmissions way setup ring cs cs' memory
unfolding jobs
any_submissions way L setup ring cs cs' memory o o' r =
    any_order way L setup ring cs cs' memory (λ k. ap (seen_by k) (sym (in_turn way setup ring cs (initial_model memory) o)) ∙ r k ∙ ap (seen_by k) (in_turn way setup ring cs' (initial_model memory) o'))

-- ---- the queue, changed by hand

-- each client's own batches decide what it sees
seen-own : (k : ℕ) (bs : List Batch) → seen_by k (jobs bs) ≡ map (job k) (batches_of k bs)
unfolding seen_by jobs batches_of
seen-own k [] = refl
seen-own k (b ∷ bs) =
    ⊎_elim
    (λ (e : b.client ≡ k). rw (eq-eqb b.client k e) (ap₂ (λ e es. e ∷ es) (ap (λ d. job d b.bytes) e) (seen-own k bs)))
    (λ (n : ¬ (b.client ≡ k)). rw (ne_eqb b.client k n) (seen-own k bs))
    (by_eq b.client k)

-- and whether they are of open clients
none_seen : (p : ℕ → Bool) (bs : List Batch) → Named p bs → (k : ℕ) → p k ≡ false → batches_of k bs ≡ []
unfolding batches_of
none_seen p [] r k e = refl
none_seen p (b ∷ bs) r k e = rw (ne_eqb b.client k (λ z. true≢false (sym r.0 ∙ ap p z ∙ e))) (none_seen p bs r.1 k e)

named-own : (p : ℕ → Bool) (bs : List Batch) → ((k : ℕ) → p k ≡ false → batches_of k bs ≡ []) → Named p bs
unfolding batches_of
named-own p [] f = tt
named-own p (b ∷ bs) f = (head (p b.client) refl, named-own p bs (λ k e. tail k e))
  where
    head : (t : Bool) → p b.client ≡ t → p b.client ≡ true
    head true e = e
    head false e = absurd (never b.bytes (rw (eq-eqb b.client b.client refl) at (f b.client e)))

    tail : (k : ℕ) → p k ≡ false → batches_of k bs ≡ []
    tail k e =
        ⊎_elim
        (λ (z : b.client ≡ k). absurd (never b.bytes (rw (eq-eqb b.client k z) at (f k e))))
        (λ (n : ¬ (b.client ≡ k)). rw (ne_eqb b.client k n) at (f k e))
        (by_eq b.client k)

module _ (way : BatchSemantics) (L : Confined way) (setup : Setup) (ring : ℕ) where
  -- ---- runs, lent as set up: as many batches are taken

  abbrev completion : Model → Batch → Answer
  completion model b = completed b.client b.ticket (way.verdict (window_of model b.client) setup.common b.bytes)

  abbrev settled : Model → List Batch → List ℕ → Model
  settled model rest memory = record { places = model.places; waiting = rest; staged = model.staged; accepted = model.accepted; memory = memory }

  record Ran (bs rest : List Batch) (model : Model) : Type 0 where
    events : executions way setup ring (run_each bs) model ≡ jobs bs
    same_answers : answers way setup ring (run_each bs) model ≡ map (completion model) bs
    left : after way setup ring (run_each bs) model ≡ settled model rest (after way setup ring (run_each bs) model).memory

  taken-run : (model : Model) (b : Batch) (bs : List Batch) → Lent setup ring model → model.waiting ≡ b ∷ bs → step way setup ring run model ≡ run_step way setup.common model (b ∷ bs)
  unfolding effect refusal_table first_holding
  taken-run model b bs l e = unless_none (refusal setup ring model run) model _ (rw (eq-eqb ring setup.ring l.0, eq-eqb (length model.memory) setup.memory l.1, e, ne_eqb (length (b ∷ bs)) 0 (λ z. omega arith))) ∙ ap (run_step way setup.common model) e

  ran : (bs rest : List Batch) (model : Model) → Sound setup model → Lent setup ring model → model.waiting ≡ bs ++ rest → Ran bs rest model
  unfolding executions answers after jobs changes
  ran [] rest model S l e = record { events = refl; same_answers = refl; left = ap (with_waiting model) e }
  ran (b ∷ bs) rest model S l e =
      let s : Step = run_step way setup.common model (b ∷ (bs ++ rest)) in
      let is : step way setup ring run model ≡ s = taken-run model b (bs ++ rest) l e in
      let size : length s.after.memory ≡ setup.memory = (L (window_of model b.client) setup.common b.bytes).sized model.memory (fitted setup model S l.1 b.client (rw e at S.named).0) ∙ l.1 in
      let r = ran bs rest s.after (rw is at (step-sound way setup ring run model S)) (l.0, size) refl in
      record {
        events = rw is (ap (λ es. job b.client b.bytes ∷ es) r.events);
        same_answers = rw is (ap (λ more. completion model b ∷ more) r.same_answers);
        left = subst (λ (z : Step). after way setup ring (run_each bs) z.after ≡ settled model rest (after way setup ring (run_each bs) z.after).memory) (sym is) r.left;
      }

  -- ---- or else none

  by_lent : (model : Model) → Lent setup ring model ⊎ ¬ (Lent setup ring model)
  by_lent model =
      ⊎_elim
      (λ (e : ring ≡ setup.ring). ⊎_elim
      (λ (z : length model.memory ≡ setup.memory). inl (e, z))
      (λ (n : ¬ (length model.memory ≡ setup.memory)). inr (λ (l : Lent setup ring model). n l.1))
      (by_eq (length model.memory) setup.memory))
      (λ (n : ¬ (ring ≡ setup.ring)). inr (λ (l : Lent setup ring model). n l.0))
      (by_eq ring setup.ring)

  refused-run : (model : Model) → ¬ (Lent setup ring model) → step way setup ring run model ≡ refuse 10 model
  unfolding effect refusal_table first_holding refuse_or
  refused-run model n =
      ⊎_elim
      (λ (e : ring ≡ setup.ring). rw (eq-eqb ring setup.ring e, ne_eqb (length model.memory) setup.memory (λ z. n (e, z))))
      (λ (o : ¬ (ring ≡ setup.ring)). rw (ne_eqb ring setup.ring o))
      (by_eq ring setup.ring)

  -- ---- the claims

  exchanged-own : (a b : Batch) → ¬ (a.client ≡ b.client) → (k : ℕ) → batches_of k (a ∷ b ∷ []) ≡ batches_of k (b ∷ a ∷ [])
  unfolding batches_of
  exchanged-own a b n k =
      ⊎_elim
      (λ (e : a.client ≡ k). rw (eq-eqb a.client k e, ne_eqb b.client k (λ z. n (e ∙ sym z))))
      (λ (o : ¬ (a.client ≡ k)). rw (ne_eqb a.client k o))
      (by_eq a.client k)

  same-own : (bs bs' : List Batch) → ((k : ℕ) → batches_of k bs ≡ batches_of k bs') → Reordered (jobs bs) (jobs bs')
  same-own bs bs' q k = seen-own k bs ∙ ap (map (job k)) (q k) ∙ sym (seen-own k bs')

  other-sound : (model : Model) (bs : List Batch) → Sound setup model → ((k : ℕ) → batches_of k bs ≡ batches_of k model.waiting) → Sound setup (with_waiting model bs)
  other-sound model bs S q = record { good = S.good; named = named-own (is_open model) bs (λ k e. q k ∙ none_seen (is_open model) model.waiting S.named k e); proper = S.proper }

  lent_run : (model : Model) (k t : ℕ) (v : CompletionStatus) (rest : List Answer) → answers way setup ring (run ∷ run ∷ []) model ≡ completed k t v ∷ rest → Lent setup ring model
  unfolding answers
  lent_run model k t v rest e =
      ⊎_elim
      (λ (l : Lent setup ring model). l)
      (λ (n : ¬ (Lent setup ring model)). let f = ap (λ (s : Step). s.answer) (refused-run model n) in let z : ◌≡◌ {A = ℕ} 0 1 = cc in absurd (omega arith))
      (by_lent model)

  exchanged : (model : Model) (a b : Batch) (first second : CompletionStatus) (rest : List Batch) → Sound setup model → model.waiting ≡ a ∷ b ∷ rest → ¬ (a.client ≡ b.client) →
      answers way setup ring (run ∷ run ∷ []) model ≡ completed a.client a.ticket first ∷ completed b.client b.ticket second ∷ [] → Exchanged way setup ring a b first second rest model
  exchanged model a b first second rest S e n t =
      let l : Lent setup ring model = lent_run model _ _ _ _ t in
      let other : Model = with_waiting model (b ∷ a ∷ rest) in
      let S' : Sound setup other = record { good = S.good; named = (let h = rw e at S.named in (h.1.0, (h.0, h.1.1))); proper = S.proper } in
      let r = ran (a ∷ b ∷ []) rest model S l e in
      let r' = ran (b ∷ a ∷ []) rest other S' l refl in
      let same = (same_outcome way L setup ring (run ∷ run ∷ []) (run ∷ run ∷ []) model other S S' refl refl
      (λ k. ap (seen_by k) r.events ∙ same-own _ _ (exchanged-own a b n) k ∙ ap (seen_by k) (sym r'.events))).memory in
      let v : completion model a ∷ completion model b ∷ [] ≡ completed a.client a.ticket first ∷ completed b.client b.ticket second ∷ [] = sym r.same_answers ∙ t in
      record { same_answers = r'.same_answers ∙ cc; left = r'.left ∙ ap (settled model rest) (sym same) ∙ sym r.left }

  none-run : (bs : List Batch) (model : Model) → ¬ (Lent setup ring model) → executions way setup ring (run_each bs) model ≡ []
  unfolding executions changes jobs
  none-run [] model n = refl
  none-run (b ∷ bs) model n = rw (refused-run model n) (none-run bs model n)

  reordered_queue : (model : Model) (other : List Batch) → Sound setup model → ((k : ℕ) → batches_of k other ≡ batches_of k model.waiting) → ByHand way setup ring model other
  reordered_queue model other S q =
      let S' : Sound setup (with_waiting model other) = other-sound model other S q in
      let r : Lent setup ring model → Ran model.waiting [] model = λ l. ran model.waiting [] model S l (sym (append-nil model.waiting)) in
      let r' : Lent setup ring model → Ran other [] (with_waiting model other) = λ l. ran other [] (with_waiting model other) S' l (sym (append-nil other)) in
      let alike : Reordered (executions way setup ring (run_each model.waiting) model) (executions way setup ring (run_each other) (with_waiting model other)) = λ k.
      ⊎_elim
      (λ (l : Lent setup ring model). ap (seen_by k) (r l).events ∙ sym (same-own other model.waiting q k) ∙ ap (seen_by k) (sym (r' l).events))
      (λ (n : ¬ (Lent setup ring model)). ap (seen_by k) (none-run model.waiting model n ∙ sym (none-run other (with_waiting model other) n)))
      (by_lent model)
      in
      record {
        outcome = same_outcome way L setup ring (run_each model.waiting) (run_each other) model (with_waiting model other) S S' refl refl alike;
        finished = λ l. (ap (λ (z : Model). z.waiting) (r l).left, ap (λ (z : Model). z.waiting) (r' l).left);
      }

  pub by_hand : (calls : List Call) (memory : List ℕ) → ReorderedByHand way setup ring calls memory
  by_hand calls memory other = reordered_queue (model_after_all way setup ring calls memory) other (after-sound way setup ring calls (initial_model memory) (fresh_sound setup memory))

  pub exchange : (calls : List Call) (memory : List ℕ) → Exchange way setup ring calls memory
  exchange calls memory a b first second rest = exchanged (model_after_all way setup ring calls memory) a b first second rest (after-sound way setup ring calls (initial_model memory) (fresh_sound setup memory))
