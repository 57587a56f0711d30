-- Laws of the staged submission: what its rules say as facts, and when a record keeps them.
use Rattle.std.proofs.Common.{◌≡◌, ℕ, zero, suc, ◌+◌, ◌-◌, ◌<◌, ◌≤◌, Bool, true, false, cond, not, ◌&&◌, eqb, ltb, leb, ◌⊎◌, List, [], ◌∷◌, get_or, set, sym, refl, ap, ◌∙◌, inl, inr, ⊎_elim, arith, ltb-true, lt-ltb, eq-eqb, ne_eqb, eqb-true, le-leb, leb-false, leb-true, Option, Some, None}
use borrow.Author.Tests.{not-true}
use Rattle.word.proofs.Tests.{and-true}
use Rattle.engine_record.specs.declared.Batch.{Batch}
use Rattle.engine_record.specs.declared.Staged.{Staged}
use Rattle.engine_record.specs.declared.EngineRecord.{EngineRecord}
use Rattle.engine_record.specs.Setup.{bad_length}
use Rattle.engine_record.specs.Slots.{free, is_free_state}
use Rattle.engine_record.specs.Staged.{no_staged, is_idle, slot_held}
use Rattle.engine_record.specs.Clients.{is_open}
use Rattle.engine_record.specs.Queue.{ready_bytes, taken_bytes}
use Rattle.engine_record.specs.Rules.{idle_rule, unfinished_rule, staged_rule}

-- ---- the rules as facts

pub free-state : (s : Option Batch) → is_free_state s ≡ true → s ≡ None
free-state None e = refl
free-state (Some b) e = absurd (let z : ◌≡◌ {A = ℕ} 0 1 = cc in omega arith)

none_of : (g : Staged) → g.client ≡ 0 → g.slot ≡ 0 → g.total ≡ 0 → g.received ≡ 0 → g ≡ no_staged
none_of g a b c d = numbers g.client g.slot g.total g.received a b c d
  where
    numbers : (k i n m : ℕ) → k ≡ 0 → i ≡ 0 → n ≡ 0 → m ≡ 0 → ◌≡◌ {A = Staged} (record { client = k; slot = i; total = n; received = m }) no_staged
    numbers k i n m a b c d = rw (a, b, c, d)

pick_true : (b x y : Bool) → b ≡ true → cond b x y ≡ x
pick_true b x y e = rw e

pick-false : (b x y : Bool) → b ≡ false → cond b x y ≡ y
pick-false b x y e = rw e

pub record Unfinished (engine : EngineRecord) : Type 0 where
  pub owner : is_open engine engine.staged.client ≡ true
  pub allowed : bad_length engine.setup.ring engine.staged.total ≡ false
  pub room : ready_bytes engine + engine.staged.total ≤ engine.setup.ring
  pub short : engine.staged.received < engine.staged.total
  pub slot : engine.staged.slot < 8
  pub held : get_or engine.slots engine.staged.slot free ≡ None

module _ (engine : EngineRecord) where
  pub staged-idle : staged_rule engine ≡ true → is_idle engine.staged ≡ true → engine.staged ≡ no_staged
  staged-idle e i =
      let r : idle_rule engine ≡ true = sym (pick_true (is_idle engine.staged) (idle_rule engine) (unfinished_rule engine) i) ∙ e in
      let x = and-true (eqb engine.staged.client 0 && eqb engine.staged.slot 0) (eqb engine.staged.received 0) r in
      let y = and-true (eqb engine.staged.client 0) (eqb engine.staged.slot 0) x.0 in
      none_of engine.staged (eqb-true _ _ y.0) (eqb-true _ _ y.1) (eqb-true _ _ i) (eqb-true _ _ x.1)

  pub staged_open : staged_rule engine ≡ true → is_idle engine.staged ≡ false → Unfinished engine
  staged_open e i =
      let r : unfinished_rule engine ≡ true = sym (pick-false (is_idle engine.staged) (idle_rule engine) (unfinished_rule engine) i) ∙ e in
      let o : Bool = is_open engine engine.staged.client in
      let a : Bool = not (bad_length engine.setup.ring engine.staged.total) in
      let t : Bool = leb (taken_bytes engine) engine.setup.ring in
      let b : Bool = ltb engine.staged.received engine.staged.total in
      let w = and-true (o && a && t && b) (slot_held engine.slots engine.staged.slot) r in
      let x = and-true (o && a && t) b w.0 in
      let y = and-true (o && a) t x.0 in
      let z = and-true o a y.0 in
      let h = and-true (ltb engine.staged.slot 8) (is_free_state (get_or engine.slots engine.staged.slot free)) w.1 in
      record {
        owner = z.0;
        allowed = not-true _ z.1;
        room = leb-true _ _ y.1;
        short = ltb-true _ _ x.1;
        slot = ltb-true _ _ h.0;
        held = free-state _ h.1;
      }

  -- ---- a record keeps them

  pub idle-kept : engine.staged ≡ no_staged → staged_rule engine ≡ true
  idle-kept e = rw e

  pub unfinished_kept : Unfinished engine → staged_rule engine ≡ true
  unfinished_kept u =
      go (is_idle engine.staged) refl
    where
      go : (b : Bool) → is_idle engine.staged ≡ b → staged_rule engine ≡ true
      go true i = absurd (omega (arith, eqb-true engine.staged.total 0 i, u.short))
      go false i = pick-false (is_idle engine.staged) (idle_rule engine) (unfinished_rule engine) i
          ∙ rw (u.owner, u.allowed, le-leb (taken_bytes engine) engine.setup.ring u.room, lt-ltb engine.staged.received engine.staged.total u.short, lt-ltb engine.staged.slot 8 u.slot, u.held)

  -- none, or an unfinished batch
  pub staged_cases : staged_rule engine ≡ true → (engine.staged ≡ no_staged) ⊎ ((is_idle engine.staged ≡ false) × Unfinished engine)
  staged_cases e = go (is_idle engine.staged) refl
    where
      go : (b : Bool) → is_idle engine.staged ≡ b → (engine.staged ≡ no_staged) ⊎ ((is_idle engine.staged ≡ false) × Unfinished engine)
      go true i = inl (staged-idle e i)
      go false i = inr (i, staged_open e i)

-- a record after it, with the same staged submission, whose client stays open, that frees slots and room
pub staged-stays : (engine after : EngineRecord) → after.staged ≡ engine.staged → after.setup.ring ≡ engine.setup.ring →
    (is_idle engine.staged ≡ false → is_open engine engine.staged.client ≡ true → is_open after engine.staged.client ≡ true) →
    ready_bytes after ≤ ready_bytes engine → ((i : ℕ) → get_or engine.slots i free ≡ None → get_or after.slots i free ≡ None) →
    staged_rule engine ≡ true → staged_rule after ≡ true
staged-stays engine after g r o b f e =
    ⊎_elim
    (λ (n : engine.staged ≡ no_staged). idle-kept after (g ∙ n))
    (λ (u : (is_idle engine.staged ≡ false) × Unfinished engine).
    let v = u.1 in
    unfinished_kept after (record {
      owner = rw g (o u.0 v.owner);
      allowed = rw (g, r) v.allowed;
      room = rw (g, r) (omega (arith, v.room));
      short = rw g v.short;
      slot = rw g v.slot;
      held = rw g (f _ v.held);
    }))
    (staged_cases engine e)

-- a slot that is freed leaves the free ones free
pub freed_free : (ss : List (Option Batch)) (at i : ℕ) → get_or ss i free ≡ None → get_or (set ss at free) i free ≡ None
freed_free [] at i e = refl
freed_free (s ∷ ss) zero zero e = refl
freed_free (s ∷ ss) zero (suc i) e = e
freed_free (s ∷ ss) (suc at) zero e = e
freed_free (s ∷ ss) (suc at) (suc i) e = freed_free ss at i e

-- room for it is room beside the ready batches
over-leb : (a b : ℕ) → b < a → leb a b ≡ false
over-leb a b p = go (leb a b) refl
  where
    go : (t : Bool) → leb a b ≡ t → t ≡ false
    go true e = absurd (omega (arith, leb-true a b e))
    go false e = refl

room_test : (ready total ring : ℕ) → ready ≤ ring → leb total (ring - ready) ≡ leb (ready + total) ring
room_test ready total ring h = sym (go (leb total (ring - ready)) refl)
  where
    go : (b : Bool) → leb total (ring - ready) ≡ b → leb (ready + total) ring ≡ b
    go true e = le-leb (ready + total) ring (omega (arith, leb-true total (ring - ready) e))
    go false e = over-leb (ready + total) ring (omega (arith, leb-false total (ring - ready) e))

-- ---- the code's tests

module _ (engine : EngineRecord) where
  pub none_test : engine.staged.total ≡ 0 → idle_rule engine ≡ staged_rule engine
  none_test e = sym (pick_true (is_idle engine.staged) (idle_rule engine) (unfinished_rule engine) (eq-eqb _ _ e))

  pub unfinished_test : ¬ (engine.staged.total ≡ 0) → ready_bytes engine ≤ engine.setup.ring →
      (is_open engine engine.staged.client && not (bad_length engine.setup.ring engine.staged.total) && leb engine.staged.total (engine.setup.ring - ready_bytes engine)
      && ltb engine.staged.received engine.staged.total && slot_held engine.slots engine.staged.slot) ≡ staged_rule engine
  unfinished_test e h =
      ap (λ (t : Bool). is_open engine engine.staged.client && not (bad_length engine.setup.ring engine.staged.total) && t
      && ltb engine.staged.received engine.staged.total && slot_held engine.slots engine.staged.slot) (room_test (ready_bytes engine) engine.staged.total engine.setup.ring h)
      ∙ sym (pick-false (is_idle engine.staged) (idle_rule engine) (unfinished_rule engine) (ne_eqb _ _ e))
