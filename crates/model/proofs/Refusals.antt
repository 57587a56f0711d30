-- What it says of a call that the table refuses it: nothing changes, and the number is the table's; and that it does not.
use mathlib.Core.Path.{◌≡◌, refl}
use mathlib.Core.List.{List, [], ◌∷◌, ◌++◌}
use mathlib.Core.Bool.{Bool, true, false, ◌||◌, not}
use mathlib.Core.Logic.{⊎_elim}
use Prim.Native.Nat.{ℕ, zero, suc, ◌+◌, ◌-◌, ◌%◌, ◌≤◌, ◌<◌}
use native.Mathlib.Omega.{arith}
use lib.ListN.{length}
use lib.Dec.{ltb, eqb}
use borrow.Author.Tests.{ltb-false, leb-false, eqb-true, eqb-false, not-false}
use Rattle.model.specs.Windows.{Window, window, overlap, overlap_any}
use Rattle.model.specs.Calls.{Setup, opens, submit, run, Call, pending, begin, piece, cancel, close, refused}
use Rattle.model.specs.State.{Model, Staging, idle, staging, is_open, open_windows, is_idle, staged_by, missing_bytes, taken_slots, taken_bytes, count_of, Batch}
use Rattle.model.specs.Refusals.{RefusalRow, ◌when◌, bad_length, batch_rows, refusal_table, first_holding, refusal}
use Rattle.model.specs.Model.{Step, refuse, refuse_or, run_step, piece_step, effect, step}
use Rattle.model.specs.BatchSemantics.{BatchSemantics}
use Rattle.model.specs.Machine.{RefusalNoOp}
use Rattle.model.specs.Properties.{refuses, Quiet, QuietRefusal}
use Rattle.model.proofs.Tests.{cond_cases, by_lt, neither, apart_of}

-- ---- a step that may be refused

pub unless_cases : (P : Step → Type 0) (n : ℕ) (model : Model) (s : Step) → (n ≡ 0 → P s) → ((k : ℕ) → P (refuse k model)) → P (refuse_or n model s)
unfolding refuse_or
unless_cases P zero model s f g = f refl
unless_cases P (suc n) model s f g = g (suc n)

-- the same of two steps that are refused alike
pub unless_both : (Q : Step → Step → Type 0) (n n' : ℕ) (model model' : Model) (s s' : Step) → n ≡ n' →
    (n ≡ 0 → Q s s') → ((k : ℕ) → Q (refuse k model) (refuse k model')) → Q (refuse_or n model s) (refuse_or n' model' s')
unfolding refuse_or
unless_both Q n n' model model' s s' e f g = rw (← e) (go n f)
  where
    go : (n : ℕ) → (n ≡ 0 → Q s s') → Q (refuse_or n model s) (refuse_or n model' s')
    go zero f = f refl
    go (suc n) f = g (suc n)

pub unless_none : (n : ℕ) (model : Model) (s : Step) → n ≡ 0 → refuse_or n model s ≡ s
unfolding refuse_or
unless_none n model s e = rw e

-- ---- no row applies

abbrev pub Clear : List RefusalRow → Type 0
Clear [] = Unit {0}
Clear ((n when t) ∷ rows) = 0 < n → (t ≡ false) × Clear rows

pub clear : (rows : List RefusalRow) → first_holding rows ≡ 0 → Clear rows
unfolding first_holding
clear [] e = tt
clear ((n when true) ∷ rows) e = λ p. absurd (omega arith)
clear ((n when false) ∷ rows) e = λ p. (refl, clear rows e)

pub record OpenAllowed (setup : Setup) (model : Model) (w : Window) : Type 0 where
  pub few : length (open_windows model) < 4
  pub filled : 0 < w.length
  pub fits : w.start + w.length ≤ setup.memory
  pub past : setup.common ≤ w.start
  pub apart : overlap_any w (open_windows model) ≡ false

pub open_allowed : (setup : Setup) (ring : ℕ) (model : Model) (w : Window) → refusal setup ring model (opens w) ≡ 0 → OpenAllowed setup model w
unfolding refusal_table
open_allowed setup ring model w e =
    let empty : Bool = eqb w.length 0 in
    let ends : Bool = ltb setup.memory (w.start + w.length) in
    let common : Bool = overlap w (window 0 setup.common) in
    let three = clear (refusal_table setup ring model (opens w)) e (omega arith) in
    let x = neither (empty || ends || common) (overlap_any w (open_windows model)) (three.1 (omega arith)).0 in
    let y = neither (empty || ends) common x.0 in
    let z = neither empty ends y.0 in
    let n : ¬ (w.length ≡ 0) = eqb-false _ _ z.0 in
    record {
      few = leb-false _ _ three.0;
      filled = omega arith;
      fits = ltb-false _ _ z.1;
      past = ⊎_elim (λ (l : w.start < setup.common). absurd (apart_of w (window 0 setup.common) w.start y.1 (omega arith) (omega arith)))
          (λ (l : setup.common ≤ w.start). l) (by_lt w.start setup.common);
      apart = x.1;
    }

-- submit and begin
pub record BatchAllowed (setup : Setup) (ring : ℕ) (model : Model) (client size : ℕ) : Type 0 where
  pub lent : ring ≡ setup.ring
  pub client_open : is_open model client ≡ true
  pub none_staged : is_idle model.staged ≡ true
  pub sized : bad_length setup size ≡ false
  pub slot : taken_slots model < 8
  pub room : size ≤ setup.ring - taken_bytes model

pub batch-allowed : (setup : Setup) (ring : ℕ) (model : Model) (client size : ℕ) → first_holding (batch_rows setup ring model client size) ≡ 0 → BatchAllowed setup ring model client size
batch-allowed setup ring model client size e =
    let ten = clear (batch_rows setup ring model client size) e (omega arith) in
    let five = ten.1 (omega arith) in
    let thirteen = five.1 (omega arith) in
    let six = thirteen.1 (omega arith) in
    let seven = six.1 (omega arith) in
    record {
      lent = eqb-true _ _ (not-false _ ten.0);
      client_open = not-false _ five.0;
      none_staged = not-false _ thirteen.0;
      sized = six.0;
      slot = leb-false _ _ seven.0;
      room = ltb-false _ _ (seven.1 (omega arith)).0;
    }

pub sized-positive : (setup : Setup) (size : ℕ) → bad_length setup size ≡ false → 0 < size
sized-positive setup size e =
    let none : Bool = eqb size 0 in
    let odd : Bool = not (eqb (size % 4) 0) in
    let n : ¬ (size ≡ 0) = eqb-false size 0 (neither none odd (neither (none || odd) (ltb setup.ring size) e).0).0 in
    omega arith

pub run-allowed : (setup : Setup) (ring : ℕ) (model : Model) → refusal setup ring model run ≡ 0 → length model.memory ≡ setup.memory
unfolding refusal_table
run-allowed setup ring model e =
    let size : Bool = eqb (length model.memory) setup.memory in
    eqb-true _ _ (not-false size (neither (not (eqb ring setup.ring)) (not size) (clear (refusal_table setup ring model run) e (omega arith)).0).1)

pub record PieceAllowed (model : Model) (client size : ℕ) : Type 0 where
  pub client_open : is_open model client ≡ true
  pub own : staged_by model.staged client ≡ true
  pub fits : size ≤ missing_bytes model.staged

pub piece-allowed : (setup : Setup) (ring : ℕ) (model : Model) (client : ℕ) (bytes : List ℕ) → refusal setup ring model (piece client bytes) ≡ 0 → PieceAllowed model client (length bytes)
unfolding refusal_table
piece-allowed setup ring model client bytes e =
    let five = (clear (refusal_table setup ring model (piece client bytes)) e (omega arith)).1 (omega arith) in
    let own : Bool = staged_by model.staged client in
    let x = neither (not own) (ltb (missing_bytes model.staged) (length bytes)) (five.1 (omega arith)).0 in
    record { client_open = not-false _ five.0; own = not-false own x.0; fits = ltb-false _ _ x.1 }

pub record CloseAllowed (setup : Setup) (model : Model) (client : ℕ) : Type 0 where
  pub size : length model.memory ≡ setup.memory
  pub client_open : is_open model client ≡ true
  pub none-waiting : count_of client model.waiting ≡ 0
  pub none_staged : staged_by model.staged client ≡ false

pub close-allowed : (setup : Setup) (ring : ℕ) (model : Model) (client : ℕ) → refusal setup ring model (close client) ≡ 0 → CloseAllowed setup model client
unfolding refusal_table
close-allowed setup ring model client e =
    let ten = clear (refusal_table setup ring model (close client)) e (omega arith) in
    let five = ten.1 (omega arith) in
    let x = neither (ltb 0 (count_of client model.waiting)) (staged_by model.staged client) (five.1 (omega arith)).0 in
    let none : count_of client model.waiting ≤ 0 = ltb-false _ _ x.0 in
    record { size = eqb-true _ _ (not-false _ ten.0); client_open = not-false _ five.0; none-waiting = omega arith; none_staged = x.1 }

-- ---- a refused call

module _ (way : BatchSemantics) (setup : Setup) (ring : ℕ) where
  abbrev Numbers : List RefusalRow → Type 0
  Numbers [] = Unit {0}
  Numbers ((n when t) ∷ rows) = (refuses n ≡ true) × Numbers rows

  number : (rows : List RefusalRow) (n : ℕ) → Numbers rows → first_holding rows ≡ suc n → refuses (suc n) ≡ true
  unfolding first_holding
  number [] n r e = absurd (omega arith)
  number ((k when true) ∷ rows) n r e = rw (← e) r.0
  number ((k when false) ∷ rows) n r e = number rows n r.1 e

  numbers : (c : Call) (model : Model) → Numbers (refusal_table setup ring model c)
  unfolding refusal_table
  numbers (opens w) model = (refl, (refl, tt))
  numbers (submit k x) model = (refl, (refl, (refl, (refl, (refl, (refl, tt))))))
  numbers run model = (refl, (refl, tt))
  numbers (pending k) model = (refl, tt)
  numbers (begin k n) model = (refl, (refl, (refl, (refl, (refl, (refl, tt))))))
  numbers (piece k x) model = (refl, (refl, (refl, tt)))
  numbers (cancel k) model = (refl, (refl, tt))
  numbers (close k) model = (refl, (refl, (refl, tt)))

  abbrev Hushed : Model → Step → Type 0
  Hushed model s = (n : ℕ) → s.answer ≡ refused n → (s.after ≡ model) × Quiet n s

  refuse-quiet : (model : Model) (n : ℕ) → refuses n ≡ true → Hushed model (refuse n model)
  refuse-quiet model n e k f = let q : n ≡ k = cc in (refl, record { executed = refl; closed = refl; listed = rw (← q) e })

  piece-quiet : (model : Model) (s : Staging) (x : List ℕ) → Hushed model (piece_step model s x)
  piece-quiet model idle x = refuse-quiet model 14 refl
  piece-quiet model (staging k n y) x = cond_cases (Hushed model) (eqb (length (y ++ x)) n) _ _
      (λ t n e. let z : ◌≡◌ {A = ℕ} 0 1 = cc in absurd (omega arith))
      (λ t n e. let z : ◌≡◌ {A = ℕ} 0 1 = cc in absurd (omega arith))

  quiet_effect : (c : Call) (model : Model) → Hushed model (effect way setup ring c model)
  unfolding effect
  quiet_effect (opens w) model n e = let z : ◌≡◌ {A = ℕ} 0 1 = cc in absurd (omega arith)
  quiet_effect (submit k x) model n e = let z : ◌≡◌ {A = ℕ} 0 1 = cc in absurd (omega arith)
  quiet_effect run model n e = go model.waiting n e
    where
      go : (bs : List Batch) → Hushed model (run_step way setup.common model bs)
      go [] n e = refuse-quiet model 9 refl n e
      go (b ∷ bs) n e = let z : ◌≡◌ {A = ℕ} 0 1 = cc in absurd (omega arith)
  quiet_effect (pending k) model n e = let z : ◌≡◌ {A = ℕ} 0 1 = cc in absurd (omega arith)
  quiet_effect (begin k m) model n e = let z : ◌≡◌ {A = ℕ} 0 1 = cc in absurd (omega arith)
  quiet_effect (piece k x) model n e = piece-quiet model model.staged x n e
  quiet_effect (cancel k) model n e = let z : ◌≡◌ {A = ℕ} 0 1 = cc in absurd (omega arith)
  quiet_effect (close k) model n e = let z : ◌≡◌ {A = ℕ} 0 1 = cc in absurd (omega arith)

  quiet : (n : ℕ) (model : Model) (s : Step) → ((k : ℕ) → n ≡ suc k → refuses (suc k) ≡ true) → Hushed model s → Hushed model (refuse_or n model s)
  unfolding refuse_or
  quiet zero model s r q = q
  quiet (suc k) model s r q = refuse-quiet model (suc k) (r k refl)

  hushed : (c : Call) (model : Model) → Hushed model (step way setup ring c model)
  hushed c model = quiet (refusal setup ring model c) model (effect way setup ring c model) (λ k e. number (refusal_table setup ring model c) k (numbers c model) e) (quiet_effect c model)

  pub refused_no_change : (c : Call) (model : Model) → RefusalNoOp (step way setup ring c model).answer model (step way setup ring c model).after
  refused_no_change c model n e = (hushed c model n e).0

  pub quiet-refusal : (c : Call) (model : Model) → QuietRefusal way setup ring c model
  quiet-refusal c model n e = (hushed c model n e).1
