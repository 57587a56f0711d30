-- Every way to cut a batch into pieces comes to what a whole submit comes to.
use mathlib.Core.Path.{◌≡◌, refl, sym, ap, ◌∙◌}
use mathlib.Core.List.{List, [], ◌∷◌, ◌++◌, map, flatten, append_assoc, append-nil}
use mathlib.Core.Bool.{true}
use Prim.Native.Nat.{ℕ, ◌+◌, ◌-◌, ◌<◌, ◌≤◌}
use native.Mathlib.Omega.{arith}
use lib.ListN.{length, length-append}
use borrow.Author.Tests.{eq-eqb, ne_eqb, le-ltb}
use Rattle.model.specs.Calls.{Setup, submit, begin, piece}
use Rattle.model.specs.BatchSemantics.{BatchSemantics}
use Rattle.model.specs.State.{Model, staging, is_open}
use Rattle.model.specs.Refusals.{refusal, refusal_table, first_holding}
use Rattle.model.specs.Model.{Step, with_staged, enqueue, piece_step, effect, step, after}
use Rattle.model.specs.Machine.{model_machine, Cutting}
use Rattle.model.proofs.Refusals.{unless_none, batch-allowed}

module _ (way : BatchSemantics) (setup : Setup) (ring : ℕ) (model : Model) (client n : ℕ) (lent : ring ≡ setup.ring) (h : is_open model client ≡ true) where
  -- the client has begun a batch of n bytes and handed over y
  abbrev begun : List ℕ → Model
  begun y = with_staged model (staging client n y)

  piece-accepted : (y x : List ℕ) → length y + length x ≤ n → step way setup ring (piece client x) (begun y) ≡ piece_step (begun y) (staging client n y) x
  unfolding effect refusal_table first_holding
  piece-accepted y x l = unless_none (refusal setup ring (begun y) (piece client x)) (begun y) _
      (rw (eq-eqb ring setup.ring lent, h, eq-eqb client client refl, le-ltb (n - length y) (length x) (omega arith)))

  more : (y x : List ℕ) → length y + length x < n → (step way setup ring (piece client x) (begun y)).after ≡ begun (y ++ x)
  more y x l = rw (piece-accepted y x (omega arith), ne_eqb (length (y ++ x)) n (λ e. omega (arith, length-append y x)))

  pieces-taken : (xs : List (List ℕ)) (y : List ℕ) → length y + length (flatten xs) < n → after way setup ring (map (piece client) xs) (begun y) ≡ begun (y ++ flatten xs)
  unfolding after flatten
  pieces-taken [] y l = ap begun (sym (append-nil y))
  pieces-taken (x ∷ xs) y l =
      let long = length-append x (flatten xs) in
      let longer = length-append y x in
      ap (after way setup ring (map (piece client) xs)) (more y x (omega arith))
      ∙ pieces-taken xs (y ++ x) (omega arith)
      ∙ ap begun (append_assoc y x (flatten xs))

  last_taken : (y x : List ℕ) → length y + length x ≡ n → step way setup ring (piece client x) (begun y) ≡ enqueue model client (y ++ x)
  last_taken y x e = rw (piece-accepted y x (omega arith), eq-eqb (length (y ++ x)) n (length-append y x ∙ e))

pub cutting : (way : BatchSemantics) (setup : Setup) (ring client : ℕ) (pieces : List (List ℕ)) (last : List ℕ) (model : Model) →
    Cutting (model_machine way setup ring) client pieces last model
unfolding refusal_table effect after
cutting way setup ring client pieces last model = record {
  checks = refl;
  whole = λ p e.
      let n : ℕ = length (flatten pieces ++ last) in
      let long : n ≡ length (flatten pieces) + length last = length-append (flatten pieces) last in
      let A = batch-allowed setup ring model client n e in
      let began : (step way setup ring (begin client n) model).after ≡ with_staged model (staging client n []) = ap (λ (s : Step). s.after) (unless_none (refusal setup ring model (begin client n)) model _ e) in
      let handed : after way setup ring (begin client n ∷ map (piece client) pieces) model ≡ with_staged model (staging client n (flatten pieces)) =
      ap (after way setup ring (map (piece client) pieces)) began ∙ pieces-taken way setup ring model client n A.lent A.client_open pieces [] (omega arith)
      in
      ap (step way setup ring (piece client last)) handed
      ∙ last_taken way setup ring model client n A.lent A.client_open (flatten pieces) last (sym long)
      ∙ sym (unless_none (refusal setup ring model (submit client (flatten pieces ++ last))) model _ e);
}
