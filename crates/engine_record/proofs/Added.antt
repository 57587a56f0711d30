-- Laws of a batch that is put into a free slot: what is ready then, and in which order.
use Rattle.std.proofs.Common.{◌≡◌, ℕ, zero, suc, ◌+◌, ◌<◌, Bool, true, false, cond, List, [], ◌∷◌, ◌++◌, length, get_or, set, sym, refl, ap, ◌∙◌, arith, length-set, get_or-set_same, lt-ltb, eq-eqb, ne_eqb, Option, Some, None}
use Rattle.word.proofs.Tests.{and-true}
use Rattle.engine_record.specs.declared.Batch.{Batch}
use Rattle.engine_record.specs.Slots.{free, ready_with, cons_if_ready, ready_batches, sum_over, is_free_state, lowest_free}
use Rattle.engine_record.specs.Tickets.{ticket_after, ticket_before, has_ticket, slot_of_ticket, is_ready_ticket, batch_of_ticket, tickets_consecutive, in_ticket_order}
use Rattle.engine_record.proofs.Slots.{sum_added, length-sum}
use Rattle.engine_record.proofs.Order.{tickets-apart, ticket-back, ticket_newest, batch-other, given-other, no_other}

-- ---- the lowest free slot

pub lowest-below : (ss : List (Option Batch)) → length (ready_batches ss) < length ss → lowest_free ss < length ss
unfolding ready_batches lowest_free
lowest-below [] h = h
lowest-below (s ∷ ss) h = go s h (lowest-below ss)
  where
    go : (q : Option Batch) → length (cons_if_ready q (ready_batches ss)) < suc (length ss) → (length (ready_batches ss) < length ss → lowest_free ss < length ss) →
        cond (is_free_state q) 0 (suc (lowest_free ss)) < suc (length ss)
    go None h ih = omega arith
    go (Some b) h ih = let l = ih (omega arith) in omega arith

pub lowest-free : (ss : List (Option Batch)) → get_or ss (lowest_free ss) free ≡ None
unfolding lowest_free
lowest-free [] = refl
lowest-free (s ∷ ss) = go s refl (lowest-free ss)
  where
    go : (q : Option Batch) → s ≡ q → get_or ss (lowest_free ss) free ≡ None →
        (get_or (s ∷ ss) (cond (is_free_state s) 0 (suc (lowest_free ss))) free) ≡ None
    go None e ih = rw e
    go (Some b) e ih = rw e ih

-- every slot below it is ready
pub lowest_least : (ss : List (Option Batch)) (i : ℕ) → i < lowest_free ss → is_free_state (get_or ss i free) ≡ false
unfolding lowest_free
lowest_least [] i h = absurd (omega arith)
lowest_least (s ∷ ss) i h = go (is_free_state s) refl i h (lowest_least ss)
  where
    go : (b : Bool) → is_free_state s ≡ b → (i : ℕ) → i < cond (is_free_state s) 0 (suc (lowest_free ss)) →
        ((i : ℕ) → i < lowest_free ss → is_free_state (get_or ss i free) ≡ false) → is_free_state (get_or (s ∷ ss) i free) ≡ false
    go true e i h ih = absurd (let l = rw e at h in omega arith)
    go false e zero h ih = e
    go false e (suc i) h ih = ih i (let l = rw e at h in omega arith)

-- ---- a batch more

module _ (b : Batch) where
  pub sum-new : (f : Batch → ℕ) (ss : List (Option Batch)) (i : ℕ) → i < length ss → get_or ss i free ≡ None →
      sum_over f (ready_batches (set ss i (ready_with b))) ≡ f b + sum_over f (ready_batches ss)
  unfolding ready_batches sum_over
  sum-new f [] i h e = absurd (omega arith)
  sum-new f (s ∷ ss) zero h e = rw e
  sum-new f (s ∷ ss) (suc i) h e =
      omega (arith, sum_added f s (ready_batches ss), sum_added f s (ready_batches (set ss i (ready_with b))), sum-new f ss i (omega arith) e)

  pub length-new : (ss : List (Option Batch)) (i : ℕ) → i < length ss → get_or ss i free ≡ None →
      length (ready_batches (set ss i (ready_with b))) ≡ suc (length (ready_batches ss))
  length-new ss i h e =
      omega (arith, length-sum (ready_batches ss), length-sum (ready_batches (set ss i (ready_with b))), sum-new (λ x. 1) ss i h e)

  -- a ticket that no slot has is found where it is put
  pub place-new : (ss : List (Option Batch)) (i : ℕ) → i < length ss → slot_of_ticket b.ticket ss ≡ length ss → slot_of_ticket b.ticket (set ss i (ready_with b)) ≡ i
  unfolding slot_of_ticket
  place-new [] i h e = absurd (omega arith)
  place-new (s ∷ ss) zero h e = rw (eq-eqb b.ticket b.ticket refl)
  place-new (s ∷ ss) (suc i) h e = go (has_ticket b.ticket s) refl e (place-new ss i (omega arith))
    where
      go : (q : Bool) → has_ticket b.ticket s ≡ q → cond (has_ticket b.ticket s) 0 (suc (slot_of_ticket b.ticket ss)) ≡ suc (length ss) →
          (slot_of_ticket b.ticket ss ≡ length ss → slot_of_ticket b.ticket (set ss i (ready_with b)) ≡ i) →
          cond (has_ticket b.ticket s) 0 (suc (slot_of_ticket b.ticket (set ss i (ready_with b)))) ≡ suc i
      go true q e ih = absurd (let z = rw q at e in omega arith)
      go false q e ih = rw q (ap suc (ih (let z = rw q at e in omega arith)))

  module _ (next : ℕ) (ss : List (Option Batch)) (i : ℕ) (is : b.ticket ≡ next) (small : next < 4294967296) (inside : i < length ss) (unused : get_or ss i free ≡ None)
      (absent : slot_of_ticket next ss ≡ length ss) where
    abbrev new : List (Option Batch)
    new = set ss i (ready_with b)

    place_is : slot_of_ticket next new ≡ i
    place_is = ap (λ (t : ℕ). slot_of_ticket t new) (sym is) ∙ place-new ss i inside (ap (λ (t : ℕ). slot_of_ticket t ss) is ∙ absent)

    batch-new : batch_of_ticket next new ≡ b
    batch-new = rw (place_is, get_or-set_same ss i (ready_with b) free inside)

    given-new : is_ready_ticket next new ≡ true
    given-new = rw (place_is, length-set ss i (ready_with b)) (lt-ltb i (length ss) inside)

    old_free : (t : ℕ) → has_ticket t (get_or ss i free) ≡ false
    old_free t = rw unused

    -- a batch that was ready has another ticket
    new-other : (k : ℕ) → 0 < k → k < 4294967296 → has_ticket (ticket_before next k) (Some b) ≡ false
    new-other k p q =
        ne_eqb b.ticket (ticket_before next k) (λ e. tickets-apart next 0 k p q (sym e ∙ is ∙ omega arith))

    -- the order: the batches that were there, and the new one last
    pub order-new : (k : ℕ) → k < 4294967295 → in_ticket_order (suc k) (ticket_after next) new ≡ in_ticket_order k next ss ++ (b ∷ [])
    unfolding in_ticket_order
    order-new zero q = rw (ticket_newest next small, batch-new)
    order-new (suc k) q =
        rw (ticket-back next (suc k) (omega arith), batch-other (ticket_before next (suc k)) (ready_with b) (new-other (suc k) (omega arith) (omega arith)) ss i (old_free (ticket_before next (suc k))))
        (ap (λ (bs : List Batch). batch_of_ticket (ticket_before next (suc k)) ss ∷ bs) (order-new k (omega arith)))

    pub given-more : (k : ℕ) → k < 4294967295 → tickets_consecutive k next ss ≡ true → tickets_consecutive (suc k) (ticket_after next) new ≡ true
    unfolding tickets_consecutive
    given-more zero q e = rw (ticket_newest next small, given-new)
    given-more (suc k) q e =
        let both = and-true (is_ready_ticket (ticket_before next (suc k)) ss) (tickets_consecutive k next ss) e in
        rw (ticket-back next (suc k) (omega arith), given-other (ticket_before next (suc k)) (ready_with b) (new-other (suc k) (omega arith) (omega arith)) ss i (old_free (ticket_before next (suc k))), both.0)
        (given-more k (omega arith) both.1)

-- no ready batch has the ticket that is next
pub next_absent : (k next : ℕ) (ss : List (Option Batch)) → length (ready_batches ss) ≡ k → k < 4294967295 → next < 4294967296 → tickets_consecutive k next ss ≡ true → slot_of_ticket next ss ≡ length ss
next_absent k next ss n small below e =
    no_other k next next ss n (omega arith) e (λ j p q z. tickets-apart next 0 j p (omega arith) (z ∙ omega arith))
