-- Laws of ticket order: what a change of one slot does to it, and that the batches in order are the ready ones, each once.
use Rattle.std.proofs.Common.{◌≡◌, ℕ, zero, suc, ◌+◌, ◌<◌, ◌≤◌, Bool, true, false, cond, List, [], ◌∷◌, length, get_or, set, sym, refl, ap, ◌∙◌, ap₂, arith, length-set, ltb-true, ne_eqb, eqb-true, Option, Some, None}
use mathlib.Core.Bool.{false≢true}
use Rattle.word.proofs.Tests.{and-true}
use Rattle.engine_record.specs.declared.Batch.{Batch}
use Rattle.engine_record.specs.Slots.{free, cons_if_ready, ready_batches, sum_over}
use Rattle.engine_record.specs.Tickets.{ticket_after, ticket_before, has_ticket, slot_of_ticket, is_ready_ticket, batch_in_state, batch_of_ticket, tickets_consecutive, in_ticket_order}
use Rattle.engine_record.proofs.Slots.{sum_added, length-sum}

-- ---- tickets

-- the tickets of a round are apart
pub tickets-apart : (next j k : ℕ) → j < k → k < 4294967296 → ticket_before next k ≡ ticket_before next j → ⊥
tickets-apart next j k h l e = omega arith

-- one ticket on, each lies one further back
pub ticket-back : (next k : ℕ) → k < 4294967296 → ticket_before (ticket_after next) (suc k) ≡ ticket_before next k
ticket-back next k h = omega arith

pub ticket_newest : (next : ℕ) → next < 4294967296 → ticket_before (ticket_after next) 1 ≡ next
ticket_newest next h = omega arith

-- a ready batch's ticket is no other
has_other : (t u : ℕ) (s : Option Batch) → has_ticket t s ≡ true → (t ≡ u → ⊥) → has_ticket u s ≡ false
has_other t u None e n = refl
has_other t u (Some b) e n =
    let z = eqb-true b.ticket t e in
    ne_eqb b.ticket u (λ q. n (sym z ∙ q))

-- ---- another state in a slot that has not the ticket, before or after

module _ (t : ℕ) (s' : Option Batch) (new : has_ticket t s' ≡ false) where
  pub place_other : (ss : List (Option Batch)) (i : ℕ) → has_ticket t (get_or ss i free) ≡ false → slot_of_ticket t (set ss i s') ≡ slot_of_ticket t ss
  unfolding slot_of_ticket
  place_other [] i old = refl
  place_other (s ∷ ss) zero old = rw (old, new)
  place_other (s ∷ ss) (suc i) old = rw (place_other ss i old)

  pub batch-other : (ss : List (Option Batch)) (i : ℕ) → has_ticket t (get_or ss i free) ≡ false → batch_of_ticket t (set ss i s') ≡ batch_of_ticket t ss
  unfolding slot_of_ticket
  batch-other [] i old = refl
  batch-other (s ∷ ss) zero old = rw (old, new)
  batch-other (s ∷ ss) (suc i) old = go (has_ticket t s) refl (batch-other ss i old)
    where
      go : (b : Bool) → has_ticket t s ≡ b → batch_of_ticket t (set ss i s') ≡ batch_of_ticket t ss →
          batch_in_state (get_or (s ∷ set ss i s') (cond (has_ticket t s) 0 (suc (slot_of_ticket t (set ss i s')))) free) ≡
          batch_in_state (get_or (s ∷ ss) (cond (has_ticket t s) 0 (suc (slot_of_ticket t ss))) free)
      go true e ih = rw e
      go false e ih = rw e ih

  pub given-other : (ss : List (Option Batch)) (i : ℕ) → has_ticket t (get_or ss i free) ≡ false → is_ready_ticket t (set ss i s') ≡ is_ready_ticket t ss
  given-other ss i old = rw (place_other ss i old, length-set ss i s')

-- the slot that is found has the ticket
pub place_has : (t : ℕ) (ss : List (Option Batch)) → slot_of_ticket t ss < length ss → has_ticket t (get_or ss (slot_of_ticket t ss) free) ≡ true
unfolding slot_of_ticket
place_has t [] h = absurd (omega arith)
place_has t (s ∷ ss) h = go (has_ticket t s) refl h (place_has t ss)
  where
    go : (b : Bool) → has_ticket t s ≡ b → cond (has_ticket t s) 0 (suc (slot_of_ticket t ss)) < suc (length ss) →
        (slot_of_ticket t ss < length ss → has_ticket t (get_or ss (slot_of_ticket t ss) free) ≡ true) →
        has_ticket t (get_or (s ∷ ss) (cond (has_ticket t s) 0 (suc (slot_of_ticket t ss))) free) ≡ true
    go true e h ih = rw (e, e)
    go false e h ih = rw e (ih (let q = rw e at h in omega arith))

-- ---- a ready slot is freed

-- a slot that has a ticket is ready, and what it adds is its batch
pub sum_has : (f : Batch → ℕ) (t : ℕ) (s : Option Batch) → has_ticket t s ≡ true → sum_over f (cons_if_ready s []) ≡ f (batch_in_state s)
unfolding sum_over
sum_has f t None e = absurd (false≢true e)
sum_has f t (Some b) e = omega arith

pub sum-split : (f : Batch → ℕ) (ss : List (Option Batch)) (i : ℕ) → sum_over f (ready_batches ss) ≡ sum_over f (cons_if_ready (get_or ss i free) []) + sum_over f (ready_batches (set ss i free))
unfolding ready_batches sum_over
sum-split f [] i = omega arith
sum-split f (s ∷ ss) zero = sum_added f s (ready_batches ss)
sum-split f (s ∷ ss) (suc i) =
    omega (arith, sum_added f s (ready_batches ss), sum_added f s (ready_batches (set ss i free)), sum-split f ss i)

-- later batches stay where they are
module _ (next k : ℕ) (ss : List (Option Batch)) (i : ℕ) (small : suc k < 4294967296) (has : has_ticket (ticket_before next (suc k)) (get_or ss i free) ≡ true) where
  other : (j : ℕ) → j ≤ k → has_ticket (ticket_before next j) (get_or ss i free) ≡ false
  other j h = has_other (ticket_before next (suc k)) (ticket_before next j) (get_or ss i free) has (tickets-apart next j (suc k) (omega arith) small)

  pub order_freed : (j : ℕ) → j ≤ k → in_ticket_order j next (set ss i free) ≡ in_ticket_order j next ss
  unfolding in_ticket_order
  order_freed zero h = refl
  order_freed (suc j) h =
      rw (batch-other (ticket_before next (suc j)) free refl ss i (other (suc j) h), order_freed j (omega arith))

  pub given_freed : (j : ℕ) → j ≤ k → tickets_consecutive j next (set ss i free) ≡ tickets_consecutive j next ss
  unfolding tickets_consecutive
  given_freed zero h = refl
  given_freed (suc j) h =
      rw (given-other (ticket_before next (suc j)) free refl ss i (other (suc j) h), given_freed j (omega arith))

-- ---- the batches in order are the ready ones

-- the oldest of k + 1 batches is found, and without it k are left
pub record Oldest (next k : ℕ) (ss : List (Option Batch)) : Type 0 where
  pub found : slot_of_ticket (ticket_before next (suc k)) ss < length ss
  pub has : has_ticket (ticket_before next (suc k)) (get_or ss (slot_of_ticket (ticket_before next (suc k)) ss) free) ≡ true
  pub rest : tickets_consecutive k next (set ss (slot_of_ticket (ticket_before next (suc k)) ss) free) ≡ true
  pub fewer : length (ready_batches ss) ≡ suc (length (ready_batches (set ss (slot_of_ticket (ticket_before next (suc k)) ss) free)))

pub oldest : (next k : ℕ) (ss : List (Option Batch)) → suc k < 4294967296 → tickets_consecutive (suc k) next ss ≡ true → Oldest next k ss
unfolding tickets_consecutive
oldest next k ss small e =
    let t : ℕ = ticket_before next (suc k) in
    let both = and-true (is_ready_ticket t ss) (tickets_consecutive k next ss) e in
    let found = ltb-true (slot_of_ticket t ss) (length ss) both.0 in
    let has = place_has t ss found in
    let one : Batch → ℕ = λ b. 1 in
    let left : List (Option Batch) = set ss (slot_of_ticket t ss) free in
    record {
      found = found;
      has = has;
      rest = given_freed next k ss (slot_of_ticket t ss) small has k (omega arith) ∙ both.1;
      fewer =
          omega (arith, length-sum (ready_batches ss), length-sum (ready_batches left), sum-split one ss (slot_of_ticket t ss), sum_has one t (get_or ss (slot_of_ticket t ss) free) has);
    }

-- sums go over the same batches
pub sum-order : (f : Batch → ℕ) (k next : ℕ) (ss : List (Option Batch)) → length (ready_batches ss) ≡ k → k < 4294967296 → tickets_consecutive k next ss ≡ true →
    sum_over f (ready_batches ss) ≡ sum_over f (in_ticket_order k next ss)
unfolding sum_over in_ticket_order
sum-order f zero next ss n small e = none (ready_batches ss) n
  where
    none : (bs : List Batch) → length bs ≡ 0 → sum_over f bs ≡ 0
    none [] h = refl
    none (b ∷ bs) h = absurd (omega arith)
sum-order f (suc k) next ss n small e =
    let t : ℕ = ticket_before next (suc k) in
    let o = oldest next k ss small e in
    let left : List (Option Batch) = set ss (slot_of_ticket t ss) free in
    sum-split f ss (slot_of_ticket t ss)
    ∙ ap₂ (λ (x y : ℕ). x + y) (sum_has f t (get_or ss (slot_of_ticket t ss) free) o.has)
    (sum-order f k next left (omega (arith, o.fewer)) (omega arith) o.rest ∙ ap (sum_over f) (order_freed next k ss (slot_of_ticket t ss) small o.has k (omega arith)))

none_ready : (u : ℕ) (ss : List (Option Batch)) → length (ready_batches ss) ≡ 0 → slot_of_ticket u ss ≡ length ss
unfolding ready_batches slot_of_ticket
none_ready u [] n = refl
none_ready u (s ∷ ss) n = go s refl n (none_ready u ss)
  where
    go : (q : Option Batch) → s ≡ q → length (cons_if_ready s (ready_batches ss)) ≡ 0 → (length (ready_batches ss) ≡ 0 → slot_of_ticket u ss ≡ length ss) →
        cond (has_ticket u s) 0 (suc (slot_of_ticket u ss)) ≡ suc (length ss)
    go None e n ih = rw e (ap suc (ih (rw e at n)))
    go (Some b) e n ih = absurd (let z = rw e at n in omega arith)

-- no other ticket is given
pub no_other : (k next u : ℕ) (ss : List (Option Batch)) → length (ready_batches ss) ≡ k → k < 4294967296 → tickets_consecutive k next ss ≡ true →
    ((j : ℕ) → 0 < j → j ≤ k → ticket_before next j ≡ u → ⊥) → slot_of_ticket u ss ≡ length ss
no_other zero next u ss n small e h = none_ready u ss n
no_other (suc k) next u ss n small e h =
    let t : ℕ = ticket_before next (suc k) in
    let o = oldest next k ss small e in
    let left : List (Option Batch) = set ss (slot_of_ticket t ss) free in
    sym (place_other u free refl ss (slot_of_ticket t ss) (has_other t u (get_or ss (slot_of_ticket t ss) free) o.has (h (suc k) (omega arith) (omega arith))))
    ∙ no_other k next u left (omega (arith, o.fewer)) (omega arith) o.rest (λ j p q. h j p (omega arith))
    ∙ length-set ss (slot_of_ticket t ss) free

pub length-order : (k next : ℕ) (ss : List (Option Batch)) → length (in_ticket_order k next ss) ≡ k
unfolding in_ticket_order
length-order zero next ss = refl
length-order (suc k) next ss = ap suc (length-order k next ss)
