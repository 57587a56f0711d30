-- Two runs that differ in one tenancy: before its opening, while it lasts, and from its closing on.
use mathlib.Core.Path.{◌≡◌, refl, sym, ap, ap₂, ◌∙◌}
use mathlib.Core.List.{List, [], ◌∷◌, ◌++◌}
use mathlib.Core.Bool.{true, false, true≢false}
use mathlib.Core.Logic.{◌⊎◌, ⊎_elim, inl, inr}
use Prim.Native.Nat.{ℕ, ◌≤◌}
use native.Mathlib.Omega.{arith}
use lib.ListN.{set}
use lib.Seq.{ext_get_or}
use borrow.Author.Tests.{eq-eqb}
use Rattle.model.specs.Windows.{Window, In, contains_any, zeroed}
use Rattle.model.specs.Calls.{Setup, Call, opens, close, Answer, done}
use Rattle.model.specs.BatchSemantics.{BatchSemantics, Confined}
use Rattle.model.specs.State.{Batch, batch, Place, free, taken, Staging, staging, Model, initial_model, place_of, is_open, is_taken, window_of, Owns, staged_by, count_of}
use Rattle.model.specs.Refusals.{refusal_table, refusal}
use Rattle.model.specs.Model.{Step, close_step, effect, step, answers, memories, after, closed, model_after_all}
use Rattle.model.specs.Tenancy.{OpenThroughout, entered}
use Rattle.model.specs.Noninterference.{Pointwise, nil, cons, LowEqualCall, identical, same-length-submit, same-length-piece, LowEqualAnswer, own-completion, LowEquivalent}
use Rattle.model.specs.Machine.{model_machine, Noninterference}
use Rattle.model.proofs.Tests.{by_eq, neither, contains_in, contains-append, apart_of}
use Rattle.model.proofs.Refusals.{unless_both, OpenAllowed, CloseAllowed, close-allowed}
use Rattle.model.proofs.Clients.{open_apart, next_in, stays-owned, kept-place}
use Rattle.model.proofs.Cases.{step_cases}
use Rattle.model.proofs.Sound.{Sound, fresh_sound, fitted, step-sound, after-sound, step_keeps, none-own}
use Rattle.model.proofs.Tenancies.{admission, open_now, throughout-place, entered-sound, entered-place}
use Rattle.model.proofs.Related.{each_append, SameBatch, SameStaging, both-idle, both-staging, View, Rel, Hidden, Both, zeroed-sized, zeroed-same, open_both, submit-both, piece-both, same-both, Runs, runs, same_count, same_shape}

-- ---- lists in two parts

module _ (way : BatchSemantics) (setup : Setup) (ring : ℕ) where
  answers-append : (xs ys : List Call) (model : Model) → answers way setup ring (xs ++ ys) model ≡ answers way setup ring xs model ++ answers way setup ring ys (after way setup ring xs model)
  unfolding answers after
  answers-append [] ys model = refl
  answers-append (x ∷ xs) ys model = ap (λ (l : List Answer). (step way setup ring x model).answer ∷ l) (answers-append xs ys (step way setup ring x model).after)

  memories-append : (xs ys : List Call) (model : Model) → memories way setup ring (xs ++ ys) model ≡ memories way setup ring xs model ++ memories way setup ring ys (after way setup ring xs model)
  unfolding memories after
  memories-append [] ys model = refl
  memories-append (x ∷ xs) ys model = ap (λ (l : List (List ℕ)). (step way setup ring x model).after.memory ∷ l) (memories-append xs ys (step way setup ring x model).after)

each_equal : {A : Type 0} {xs ys : List A} → Pointwise (λ (x y : A). x ≡ y) xs ys → xs ≡ ys
each_equal nil = refl
each_equal (cons q qs) = ap₂ (λ x xs. x ∷ xs) q (each_equal qs)

each-refl : {A : Type 0} (xs : List A) → Pointwise (λ (x y : A). x ≡ y) xs xs
each-refl [] = nil
each-refl (x ∷ xs) = cons refl (each-refl xs)

each_map : {A : Type 0} {R Q : A → A → Type 0} → ((x y : A) → R x y → Q x y) → {xs ys : List A} → Pointwise R xs ys → Pointwise Q xs ys
each_map f nil = nil
each_map f (cons {x = x} {y = y} q qs) = cons (f x y q) (each_map f qs)

-- ---- a byte that is owned is still owned after some calls, or lies in a window that they closed

module _ (way : BatchSemantics) (setup : Setup) (ring : ℕ) where
  owned-next : (c : Call) (model : Model) → Sound setup model → (k i : ℕ) → Owns model k i →
      Owns (step way setup ring c model).after k i ⊎ (contains_any (step way setup ring c model).closed i ≡ true)
  unfolding contains_any
  owned-next c model S k i o = step_cases way setup ring model (λ s. Owns s.after k i ⊎ (contains_any s.closed i ≡ true)) c (record {
    staging = λ a g _ _ _. inl o;
    entering = λ j x _ _ _. inl o;
    opening = λ w _ A. inl (stays-owned model w (next_in model S.good.four A.few) k i o);
    running = λ b bs _ _ _. inl o;
    closing = λ d _ A. ⊎_elim
        (λ (e : k ≡ d). inr (rw (contains_in (window_of model d) i (rw e at o.1))))
        (λ (n : ¬ (k ≡ d)). inl (rw (kept-place model d k n) o))
        (by_eq k d);
  })

  -- neither, if the calls close no window around it and nobody owns it after them
  never_owned : (cs : List Call) (model : Model) → Sound setup model → (k i : ℕ) → contains_any (closed way setup ring cs model) i ≡ false → ¬ (Owns (after way setup ring cs model) k i) → ¬ (Owns model k i)
  unfolding closed after
  never_owned [] model S k i e f o = f o
  never_owned (c ∷ cs) model S k i e f o =
      let s : Step = step way setup ring c model in
      let n = neither (contains_any s.closed i) (contains_any (closed way setup ring cs s.after) i) (sym (contains-append s.closed (closed way setup ring cs s.after) i) ∙ e) in
      ⊎_elim
      (λ (p : Owns s.after k i). never_owned cs s.after (step-sound way setup ring c model S) k i n.1 f p)
      (λ (p : contains_any s.closed i ≡ true). true≢false (sym p ∙ n.0))
      (owned-next c model S k i o)

-- ---- models alike but for one client are alike if it has nothing waiting and nothing staged

module _ (d : ℕ) where
  same-waiting : {vs ws : List Batch} → Pointwise (SameBatch (λ k. k ≡ d)) vs ws → count_of d vs ≡ 0 → vs ≡ ws
  same-waiting nil e = refl
  same-waiting (cons {x = v} {y = w} {xs = vs} {ys = ws} q qs) e =
      let n = none-own v vs d e in
      let h : batch v.client v.ticket v.bytes ≡ batch w.client w.ticket w.bytes = rw (q.client, q.ticket, q.bytes n.0) in
      ap₂ (λ (b : Batch) (bs : List Batch). b ∷ bs) h (same-waiting qs n.1)

  same-staged : {g h : Staging} → SameStaging (λ k. k ≡ d) g h → staged_by g d ≡ false → g ≡ h
  same-staged both-idle e = refl
  same-staged (both-staging k n x y _ f) e = ap (staging k n) (f (λ q. true≢false (sym (eq-eqb k d q) ∙ e)))

same-model : (m m' : Model) → m.places ≡ m'.places → m.waiting ≡ m'.waiting → m.staged ≡ m'.staged → m.accepted ≡ m'.accepted → m.memory ≡ m'.memory → m ≡ m'
same-model m m' p w s a e =
    let made : List Place → List Batch → Staging → ℕ → List ℕ → Model = λ p w s a e. record { places = p; waiting = w; staged = s; accepted = a; memory = e } in
    let h : made m.places m.waiting m.staged m.accepted m.memory ≡ made m'.places m'.waiting m'.staged m'.accepted m'.memory = rw (p, w, s, a, e) in
    h

module _ (way : BatchSemantics) (L : Confined way) (setup : Setup) (ring : ℕ) (d : ℕ) (before : List Call) (w : Window) (during during' : List Call) (m m' : List ℕ)
    (T : LowEquivalent way setup ring d before w during during' m m') where
  abbrev start : Model
  start = model_after_all way setup ring before m

  abbrev start' : Model
  start' = model_after_all way setup ring before m'

  S : Sound setup start
  S = after-sound way setup ring before (initial_model m) (fresh_sound setup m)

  A : OpenAllowed setup start w
  A = (admission way setup ring start w d T.tenancy.admitted).allowed

  -- ---- before: no client's batches differ; hidden are the bytes of the window to come that nobody owns till then

  abbrev Unowned : ℕ → Type 0
  Unowned i = In w i × (contains_any (closed way setup ring before (initial_model m)) i ≡ false)

  abbrev X₁ : View
  X₁ = record { Secret = λ k. ⊥; secret? = λ k. inr (λ z. z); Hid = Unowned; AnswersAgree = λ a b. a ≡ b; alike = λ a. refl; own_agree = λ k t v v' z. absurd z }

  abbrev Inv₁ : List Call → Model → Type 0
  Inv₁ cs model = Sound setup model × ((i : ℕ) → Unowned i → (contains_any (closed way setup ring cs model) i ≡ false) × ((k : ℕ) → ¬ (Owns (after way setup ring cs model) k i)))

  next₁ : (c : Call) (cs : List Call) (model : Model) → Inv₁ (c ∷ cs) model → Inv₁ cs (step way setup ring c model).after
  unfolding closed after
  next₁ c cs model I = (
    step-sound way setup ring c model I.0,
    λ i f.
        let s : Step = step way setup ring c model in
        let rest : List Window = closed way setup ring cs s.after in
        ((neither (contains_any s.closed i) (contains_any rest i) (sym (contains-append s.closed rest i) ∙ (I.1 i f).0)).1, (I.1 i f).1),
  )

  runs₁ : Runs way setup ring X₁ w before before (initial_model m) (initial_model m')
  runs₁ = runs way L setup ring X₁ w (λ i f. f.0) (λ c c'. c ≡ c') Inv₁
      (λ cs model I. I.0)
      (λ c cs model I. record {
        own = λ k i z. absurd z;
        others = λ k i _ o f. never_owned way setup ring (c ∷ cs) model I.0 k i (I.1 i f).0 ((I.1 i f).1 k) o;
        common = λ i l f. let past = A.past in omega arith;
      })
      next₁
      (λ c c' e model model' S H R. rw e (same-both way L setup ring X₁ model model' S R H c'))
      before before (each-refl before) (initial_model m) (initial_model m')
      (fresh_sound setup m, λ i f. (f.1, λ k o. apart_of w (window_of start k) i (open_apart start w A.apart k o.0) f.0 o.1))
      (record { places = refl; waiting = nil; staged = both-idle; accepted = refl; size = T.size; bytes = T.bytes })

  -- ---- while it lasts: hidden is its window

  abbrev X₂ : View
  X₂ = record { Secret = λ k. k ≡ d; secret? = λ k. by_eq k d; Hid = In w; AnswersAgree = LowEqualAnswer d; alike = identical; own_agree = λ k t v v' e. rw e (own-completion t v v') }

  abbrev Inv₂ : List Call → Model → Type 0
  Inv₂ cs model = Sound setup model × OpenThroughout way setup ring d cs model × (place_of model d ≡ taken w)

  hides₂ : (c : Call) (cs : List Call) (model : Model) → Inv₂ (c ∷ cs) model → Hidden setup X₂ model
  hides₂ c cs model I =
      let G = I.0.good in
      let h : is_open model d ≡ true = ap is_taken I.2 in
      record {
        own = λ k i e o. rw (e, I.2) at o.1;
        others = λ k i n o p. G.apart k d i o.0 h n o.1 (rw I.2 p);
        common = λ i l p. let past : setup.common ≤ w.start = rw I.2 at (G.past d h) in omega arith;
      }

  pair₂ : (c c' : Call) → LowEqualCall d c c' → (model model' : Model) → Sound setup model → Hidden setup X₂ model → Rel X₂ model model' → Both X₂ (step way setup ring c model) (step way setup ring c' model')
  pair₂ _ _ (identical c) model model' S H R = same-both way L setup ring X₂ model model' S R H c
  pair₂ _ _ (same-length-submit x y e) model model' S H R = submit-both way L setup ring X₂ model model' S R d x y e (λ n. absurd (n refl))
  pair₂ _ _ (same-length-piece x y e) model model' S H R = piece-both way L setup ring X₂ model model' S R d x y e (λ n. absurd (n refl))

  abbrev inner : Model
  inner = entered way setup ring (initial_model m) before w

  abbrev inner' : Model
  inner' = entered way setup ring (initial_model m') before w

  inner-sound : Sound setup inner
  inner-sound = entered-sound way setup ring (initial_model m) (fresh_sound setup m) before w during d T.tenancy

  inner-place : place_of inner d ≡ taken w
  inner-place = entered-place way setup ring (initial_model m) (fresh_sound setup m) before w during d T.tenancy

  opened_both : Both X₁ (step way setup ring (opens w) start) (step way setup ring (opens w) start')
  opened_both = open_both way L setup ring X₁ start start' S runs₁.rel w

  -- what may differ before may differ now
  weaker : (model model' : Model) → Rel X₁ model model' → Rel X₂ model model'
  weaker model model' R = record {
    places = R.places;
    waiting = each_map (λ v w q. record { client = q.client; ticket = q.ticket; size = q.size; bytes = λ _. q.bytes (λ z. z) }) R.waiting;
    staged = restaged R.staged;
    accepted = R.accepted;
    size = R.size;
    bytes = λ i o. R.bytes i (λ f. o f.0);
  }
    where
      restaged : {g h : Staging} → SameStaging (λ k. ⊥) g h → SameStaging (λ k. k ≡ d) g h
      restaged both-idle = both-idle
      restaged (both-staging k n x y e f) = both-staging k n x y e (λ _. f (λ z. z))

  runs₂ : Runs way setup ring X₂ w during during' inner inner'
  runs₂ = runs way L setup ring X₂ w (λ i p. p) (LowEqualCall d) Inv₂
      (λ cs model I. I.0)
      hides₂
      (λ c cs model I.
      let next : Model = (step way setup ring c model).after in
      (step-sound way setup ring c model I.0, I.1.1, step_keeps way setup ring c model I.0 d I.1.0 (open_now way setup ring d cs next I.1.1) ∙ I.2))
      pair₂
      during during' T.calls inner inner'
      (inner-sound, T.tenancy.lasts, inner-place)
      (weaker inner inner' opened_both.1)

  -- ---- from its closing on: the models are the same

  abbrev left : Model
  left = after way setup ring during inner

  abbrev left' : Model
  left' = after way setup ring during' inner'

  left-place : place_of left d ≡ taken w
  left-place = throughout-place way setup ring d during inner inner-sound T.tenancy.lasts ∙ inner-place

  abbrev Level : Step → Step → Type 0
  Level s s' = s.answer ≡ done → (s.answer ≡ s'.answer) × (s.after ≡ s'.after)

  closed_level : CloseAllowed setup left d → Level (close_step left d) (close_step left' d)
  closed_level B a =
      let R = runs₂.rel in
      let fits = fitted setup left (after-sound way setup ring during inner inner-sound) B.size d B.client_open in
      let v : Window = window_of left d in
      let memory : zeroed v left.memory ≡ zeroed (window_of left' d) left'.memory = rw (← R.places)
      (ext_get_or 0 (zeroed v left.memory) (zeroed v left'.memory) (zeroed-sized way L setup ring X₂ v left.memory left'.memory fits R.size R.bytes)
      (λ i _. zeroed-same way L setup ring X₂ v left.memory left'.memory fits R.size R.bytes i (λ n. R.bytes i (λ p. n (rw left-place p))))) in (
        refl,
        same-model (close_step left d).after (close_step left' d).after
            (ap (λ (ps : List Place). set ps d free) R.places)
            (same-waiting d R.waiting B.none-waiting)
            (same-staged d R.staged B.none_staged)
            R.accepted
            memory,
      )

  level : Level (step way setup ring (close d) left) (step way setup ring (close d) left')
  unfolding effect refusal_table
  level =
      let R = runs₂.rel in
      unless_both Level (refusal setup ring left (close d)) (refusal setup ring left' (close d)) left left' _ _
      (rw (R.size, R.places, same_count (λ k. k ≡ d) d R.waiting, (same_shape (λ k. k ≡ d) R.staged).by d))
      (λ e. closed_level (close-allowed setup ring left d e))
      (λ k a. let z : ◌≡◌ {A = ℕ} 0 1 = cc in absurd (omega arith))

  pub noninterference : Noninterference (model_machine way setup ring) d before w during during' (initial_model m) (initial_model m')
  unfolding answers memories after
  noninterference = record {
    answers_before =
        answers-append way setup ring before (opens w ∷ []) (initial_model m)
        ∙ ap₂ (λ (xs : List Answer) (a : Answer). xs ++ (a ∷ [])) (each_equal runs₁.same_answers) opened_both.0
        ∙ sym (answers-append way setup ring before (opens w ∷ []) (initial_model m'));
    answers_during = runs₂.same_answers;
    throughout =
        rw (memories-append way setup ring before (opens w ∷ during) (initial_model m), memories-append way setup ring before (opens w ∷ during') (initial_model m'))
        (each_append runs₁.seen (cons (record { size = opened_both.1.size; bytes = λ i o. opened_both.1.bytes i (λ f. o f.0) }) runs₂.seen));
    from_closing = λ later a.
        let e = level a in (
          ap₂ (λ (x : Answer) (model : Model). x ∷ answers way setup ring later model) e.0 e.1,
          ap (λ (model : Model). model.memory ∷ memories way setup ring later model) e.1,
        );
  }
