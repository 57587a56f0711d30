-- One batch: the register that a word of it is for, and why the batch is faulty, by its reading.
use mathlib.Core.Path.{◌≡◌, refl, sym, ap, ◌∙◌}
use mathlib.Core.Bool.{cond}
use mathlib.Core.List.{List, [], ◌∷◌}
use Prim.Native.Nat.{ℕ, zero, suc, ◌+◌, ◌-◌, ◌<◌, ◌≤◌}
use native.Mathlib.Numerals.{add-one}
use native.Mathlib.Omega.{arith}
use lib.ListN.{length, get_or, drop}
use lib.Seq.{drop-cons}
use lib.Dec.{eqb}
use Rattle.register.specs.declared.bank.Bank.{Bank}
use Rattle.task_check.specs.declared.fault.Fault.{Fault}
use Rattle.batch.specs.declared.verdict.Validation.{Validation}
use Rattle.std.specs.Prelude.{Option, Some, None}
use Rattle.std.specs.Option.{option_map_or}
use Rattle.batch.specs.declared.verdict.Verdict.{Verdict}
use Rattle.batch.specs.declared.verdict.FaultAt.{FaultAt}
use Rattle.batch.specs.Batch.{BatchEnd, finished, faulty, DecodedBatch, verdict_after, validation_of}
use Rattle.provenance.specs.declared.Group.{Group}
use Rattle.provenance.specs.Faulted.{group_after, register_from, explained_by, explained}

-- ---- the register of a word

pub register_past : (g : Group) (k : ℕ) (ws : List ℕ) → length ws ≤ k → register_from g k ws ≡ 0
unfolding register_from
register_past g k [] h = refl
register_past g zero (w ∷ ws) h = absurd (omega arith)
register_past g (suc k) (w ∷ ws) h = register_past (group_after g w) k ws (omega arith)

-- the group is one word further on
pub register_next : (g : Group) (k at : ℕ) (ws : List ℕ) → at < k → k < length ws
    → register_from g (k - at) (drop at ws) ≡ register_from (group_after g (get_or ws at 0)) (k - (at + 1)) (drop (at + 1) ws)
unfolding register_from
register_next g k at ws l h =
    let less : k - at ≡ suc (k - (at + 1)) = omega arith in
    let there : at < length ws = omega arith in
    rw (less, add-one, drop-cons ws at 0)

pub register_here : (g : Group) (k : ℕ) (ws : List ℕ) → k < length ws → register_from g (k - k) (drop k ws) ≡ cond (eqb g.left 0) 0 g.register
unfolding register_from
register_here g k ws h =
    let none : k - k ≡ 0 = omega arith in
    rw (none, drop-cons ws k 0)

-- ---- a batch judged

module _ (ws : List ℕ) (r : DecodedBatch) (j : Validation) (is : j ≡ validation_of r) where
  by_ending : (e : BatchEnd) → e ≡ r.ending → explained ws r ≡ explained_by ws j.bank e
  unfolding explained
  by_ending e same = ap (λ (b : Bank). explained_by ws b r.ending) (sym (ap (λ (q : Validation). q.bank) is)) ∙ ap (explained_by ws j.bank) (sym same)

  -- how it ended
  met : verdict_after (length r.tasks) r.ending ≡ j.verdict
  met = sym (ap (λ (q : Validation). q.verdict) is)

  pub explained-none : j.verdict.fault ≡ None → None ≡ explained ws r
  explained-none v = go r.ending refl
    where
      go : (e : BatchEnd) → e ≡ r.ending → None ≡ explained ws r
      go finished same = sym (by_ending finished same)
      go (faulty f place) same =
          let wrong : ◌≡◌ {A = Option FaultAt} (Some (record { fault = f; offset = place })) None =
          ap (λ (q : Verdict). q.fault) (ap (verdict_after (length r.tasks)) same ∙ met) ∙ v in
          absurd (let z : ◌≡◌ {A = ℕ} 0 1 = cc in omega arith)

  pub explained-fault : (found : FaultAt) → j.verdict.fault ≡ Some found → explained_by ws j.bank (faulty found.fault found.offset) ≡ explained ws r
  explained-fault found v = go r.ending refl
    where
      go : (e : BatchEnd) → e ≡ r.ending → explained_by ws j.bank (faulty found.fault found.offset) ≡ explained ws r
      go finished same =
          let wrong : ◌≡◌ {A = Option FaultAt} None (Some found) = ap (λ (q : Verdict). q.fault) (ap (verdict_after (length r.tasks)) same ∙ met) ∙ v in
          absurd (let z : ◌≡◌ {A = ℕ} 0 1 = cc in omega arith)
      go (faulty g other) same =
          let right : ◌≡◌ {A = Option FaultAt} (Some (record { fault = g; offset = other })) (Some found) =
          ap (λ (q : Verdict). q.fault) (ap (verdict_after (length r.tasks)) same ∙ met) ∙ v in
          let fault : g ≡ found.fault = ap (λ (o : Option FaultAt). option_map_or (λ (q : FaultAt). q.fault) o g) right in
          let there : other ≡ found.offset = ap (λ (o : Option FaultAt). option_map_or (λ (q : FaultAt). q.offset) o other) right in
          sym (by_ending (faulty g other) same ∙ rw (fault, there))
