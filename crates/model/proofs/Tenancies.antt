-- Every open client has a current tenancy, and through it its window.
use mathlib.Core.Path.{◌≡◌, refl, sym, ap, ap₂, ◌∙◌}
use mathlib.Core.List.{List, [], ◌∷◌, ◌++◌}
use mathlib.Core.Bool.{Bool, true, false, true≢false}
use mathlib.Core.Logic.{◌⊎◌, ⊎_elim, inl, inr}
use Prim.Native.Nat.{ℕ}
use native.Mathlib.Omega.{arith}
use Rattle.model.specs.Windows.{Window}
use Rattle.model.specs.Calls.{Setup, Call, opens, opened}
use Rattle.model.specs.BatchSemantics.{BatchSemantics}
use Rattle.model.specs.State.{Model, initial_model, taken, place_of, is_open, next_client}
use Rattle.model.specs.Refusals.{refusal}
use Rattle.model.specs.Model.{Step, open_step, effect, step, after, model_after_all}
use Rattle.model.specs.Tenancy.{OpenThroughout, entered, Tenancy, Current}
use Rattle.model.specs.Properties.{Lowest}
use Rattle.model.proofs.Refusals.{unless_cases, OpenAllowed, open_allowed}
use Rattle.model.proofs.Clients.{none_open, next-closed, lower_open, next_in, new-place, old_or_new, not-closed, kept-place}
use Rattle.model.proofs.Cases.{step_cases}
use Rattle.model.proofs.Sound.{Sound, fresh_sound, step-sound, after-sound, step_keeps}

module _ (way : BatchSemantics) (setup : Setup) (ring : ℕ) where
  -- ---- an accepted opening

  pub record Admitted (model : Model) (w : Window) (client : ℕ) (s : Step) : Type 0 where
    pub is : s ≡ open_step model w
    pub next : next_client model ≡ client
    pub allowed : OpenAllowed setup model w

  pub admission : (model : Model) (w : Window) (client : ℕ) → (step way setup ring (opens w) model).answer ≡ opened client → Admitted model w client (step way setup ring (opens w) model)
  unfolding effect
  admission model w client = unless_cases (λ s. s.answer ≡ opened client → Admitted model w client s) (refusal setup ring model (opens w)) model _
      (λ e a. record { is = refl; next = cc; allowed = open_allowed setup ring model w e })
      (λ n a. let z : ◌≡◌ {A = ℕ} 0 1 = cc in absurd (omega arith))

  pub admitted-place : (model : Model) (w : Window) (client : ℕ) → Sound setup model → (step way setup ring (opens w) model).answer ≡ opened client →
      place_of (step way setup ring (opens w) model).after client ≡ taken w
  admitted-place model w client S a =
      let A = admission model w client a in
      rw (A.is, ← A.next) (new-place model w (next_in model S.good.four A.allowed.few))

  pub lowest : (calls : List Call) (memory : List ℕ) → Lowest way setup ring calls memory
  lowest calls memory client w a =
      let model : Model = model_after_all way setup ring calls memory in
      let A = admission model w client a in
      let four = (after-sound way setup ring calls (initial_model memory) (fresh_sound setup memory)).good.four in
      rw (← A.next) (next-closed model, lower_open model, rw four at (next_in model four A.allowed.few))

  -- ---- a tenancy

  pub open_now : (k : ℕ) (cs : List Call) (model : Model) → OpenThroughout way setup ring k cs model → is_open model k ≡ true
  open_now k [] model h = h
  open_now k (c ∷ cs) model h = h.0

  pub throughout-place : (k : ℕ) (cs : List Call) (model : Model) → Sound setup model → OpenThroughout way setup ring k cs model → place_of (after way setup ring cs model) k ≡ place_of model k
  unfolding after
  throughout-place k [] model S h = refl
  throughout-place k (c ∷ cs) model S h =
      let next : Model = (step way setup ring c model).after in
      throughout-place k cs next (step-sound way setup ring c model S) h.1 ∙ step_keeps way setup ring c model S k h.0 (open_now k cs next h.1)

  pub after-append : (xs ys : List Call) (model : Model) → after way setup ring (xs ++ ys) model ≡ after way setup ring ys (after way setup ring xs model)
  unfolding after
  after-append [] ys model = refl
  after-append (x ∷ xs) ys model = after-append xs ys (step way setup ring x model).after

  module _ (start : Model) (S : Sound setup start) (before : List Call) (w : Window) (during : List Call) (client : ℕ) (t : Tenancy way setup ring start before w during client) where
    pub entered-sound : Sound setup (entered way setup ring start before w)
    entered-sound = step-sound way setup ring (opens w) (after way setup ring before start) (after-sound way setup ring before start S)

    pub entered-place : place_of (entered way setup ring start before w) client ≡ taken w
    entered-place = admitted-place (after way setup ring before start) w client (after-sound way setup ring before start S) t.admitted

    pub tenant_place : place_of (after way setup ring (before ++ opens w ∷ during) start) client ≡ taken w
    unfolding after
    tenant_place =
        rw (after-append before (opens w ∷ during) start)
        (throughout-place client during (entered way setup ring start before w) entered-sound t.lasts ∙ entered-place)

  -- ---- each open client has one

  -- a call after which a client is open that was not is an open that is answered with its id
  abbrev Enters : Call → Model → ℕ → Step → Type 0
  Enters c model k s = is_open model k ≡ false → is_open s.after k ≡ true → (w : Window) × (c ≡ opens w) × (s.answer ≡ opened k)

  enters : (c : Call) (model : Model) (k : ℕ) → Sound setup model → Enters c model k (step way setup ring c model)
  enters c model k S = step_cases way setup ring model (Enters c model k) c (record {
    staging = λ a g _ _ _ f h. absurd (true≢false (sym h ∙ f));
    entering = λ j x _ _ _ f h. absurd (true≢false (sym h ∙ f));
    opening = λ w e A f h. (
      w,
      e,
      ⊎_elim
          (λ (l : is_open model k ≡ true). absurd (true≢false (sym l ∙ f)))
          (λ (q : k ≡ next_client model). ap opened (sym q))
          (old_or_new model w (next_in model S.good.four A.few) k h),
    );
    running = λ b bs _ e _ f h. absurd (true≢false (sym h ∙ f));
    closing = λ d _ A f h. absurd (true≢false (sym (rw (kept-place model d k (not-closed model d k h)) at h) ∙ f));
  })

  find : (cs : List Call) (model : Model) (k : ℕ) → Sound setup model → is_open (after way setup ring cs model) k ≡ true → OpenThroughout way setup ring k cs model ⊎ Current way setup ring model cs k
  unfolding after
  find [] model k S h = inl h
  find (c ∷ cs) model k S h =
      ⊎_elim
      (λ (o : OpenThroughout way setup ring k cs (step way setup ring c model).after). go (is_open model k) refl o)
      (λ (t : Current way setup ring (step way setup ring c model).after cs k). inr (record {
        before = c ∷ t.before;
        window = t.window;
        during = t.during;
        split = ap (λ (l : List Call). c ∷ l) t.split;
        tenancy = record { admitted = t.tenancy.admitted; lasts = t.tenancy.lasts };
      }))
      (find cs (step way setup ring c model).after k (step-sound way setup ring c model S) h)
    where
      go : (now : Bool) → is_open model k ≡ now → OpenThroughout way setup ring k cs (step way setup ring c model).after → OpenThroughout way setup ring k (c ∷ cs) model ⊎ Current way setup ring model (c ∷ cs) k
      go true e o = inl (e, o)
      go false e o =
          let n = enters c model k S e (open_now k cs (step way setup ring c model).after o) in
          inr (record {
            before = [];
            window = n.0;
            during = cs;
            split = ap (λ (x : Call). x ∷ cs) n.1;
            tenancy = record { admitted = rw n.1 at n.2; lasts = rw n.1 at o };
          })

  pub resides : (calls : List Call) (memory : List ℕ) (client : ℕ) → is_open (model_after_all way setup ring calls memory) client ≡ true → Current way setup ring (initial_model memory) calls client
  resides calls memory client h =
      ⊎_elim
      (λ (o : OpenThroughout way setup ring client calls (initial_model memory)). absurd (none_open memory client (open_now client calls (initial_model memory) o)))
      (λ (t : Current way setup ring (initial_model memory) calls client). t)
      (find calls (initial_model memory) client (fresh_sound setup memory) h)

  -- ---- and only one: the client is not open when it is opened, and open throughout its tenancy

  open_later : (k : ℕ) (xs ys : List Call) (model : Model) → OpenThroughout way setup ring k (xs ++ ys) model → is_open (after way setup ring xs model) k ≡ true
  unfolding after
  open_later k [] ys model o = open_now k ys model o
  open_later k (x ∷ xs) ys model o = open_later k xs ys (step way setup ring x model).after o.1

  -- no tenancy begins at the first call if another begins later
  not-both : (start : Model) (k : ℕ) (w w' : Window) (c : Call) (before during during' : List Call) → opens w ∷ during ≡ c ∷ (before ++ opens w' ∷ during') →
      Tenancy way setup ring start [] w during k → Tenancy way setup ring start (c ∷ before) w' during' k → ⊥
  unfolding after
  not-both start k w w' c before during during' e t u =
      let p : opens w ≡ c = cc in
      let q : during ≡ before ++ opens w' ∷ during' = cc in
      let there : is_open (after way setup ring before (step way setup ring (opens w) start).after) k ≡ true = open_later k before (opens w' ∷ during') _ (rw q at t.lasts) in
      let model : Model = after way setup ring (c ∷ before) start in
      let gone : is_open model k ≡ false = rw (← (admission model w' k u.admitted).next) (next-closed model) in
      true≢false (sym (rw p at there) ∙ gone)

  same-split : (start : Model) (k : ℕ) (w w' : Window) (b b' during during' : List Call) → b ++ opens w ∷ during ≡ b' ++ opens w' ∷ during' →
      Tenancy way setup ring start b w during k → Tenancy way setup ring start b' w' during' k → (b ≡ b') × (w ≡ w') × (during ≡ during')
  unfolding after
  same-split start k w w' [] [] during during' e t u = (refl, cc, cc)
  same-split start k w w' [] (c ∷ b') during during' e t u = absurd (not-both start k w w' c b' during during' e t u)
  same-split start k w w' (c ∷ b) [] during during' e t u = absurd (not-both start k w' w c b during' during (sym e) u t)
  same-split start k w w' (c ∷ b) (c' ∷ b') during during' e t u =
      let p : c ≡ c' = cc in
      let q : b ++ opens w ∷ during ≡ b' ++ opens w' ∷ during' = cc in
      let r = same-split (step way setup ring c start).after k w w' b b' during during' q (record { admitted = t.admitted; lasts = t.lasts }) (rw p (record { admitted = u.admitted; lasts = u.lasts })) in
      (ap₂ (λ (x : Call) (xs : List Call). x ∷ xs) p r.0, r.1, r.2)

  pub only : (start : Model) (calls : List Call) (k : ℕ) (t u : Current way setup ring start calls k) → (t.before ≡ u.before) × (t.window ≡ u.window) × (t.during ≡ u.during)
  only start calls k t u = same-split start k t.window u.window t.before u.before t.during u.during (sym t.split ∙ u.split) t.tenancy u.tenancy
