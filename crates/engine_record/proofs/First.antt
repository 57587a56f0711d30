-- The first of a list that passes a test: what a search for it answers, by a definition of this crate's.
use Rattle.std.proofs.Common.{◌≡◌, ℕ, suc, ◌+◌, ◌<◌, Bool, true, false, cond, not, ltb, List, ◌∷◌, length, position, Option, Some, None, MatchOption, IsSome, refl, arith, ltb-true, ltb-false}
use Rattle.std.specs.List.{position_or_len}
use Rattle.std.proofs.lemmas.List.Recursion.{is_position_or_len}
use Rattle.std.proofs.lemmas.List.Sums.{prefix_len-le-length}
use Rattle.engine_record.specs.declared.Batch.{Batch}
use Rattle.engine_record.specs.Tickets.{has_ticket, slot_of_ticket}

module _ {X : Type 0} (p : X → Bool) (xs : List X) (n first : ℕ) (long : length xs ≡ n) (is : first ≡ position_or_len p xs) where
  first_is : (r : Option ℕ) → r ≡ position p xs → MatchOption r (first ≡ n) (λ i. (i ≡ first) × (i < n))
  first_is r e = rw e (go (ltb (position_or_len p xs) (length xs)) refl)
    where
      go : (t : Bool) → ltb (position_or_len p xs) (length xs) ≡ t → MatchOption (cond t (Some (position_or_len p xs)) None) (first ≡ n) (λ i. (i ≡ first) × (i < n))
      go true h = let l = ltb-true _ _ h in (omega arith, omega arith)
      go false h = let l = ltb-false _ _ h in omega (arith, prefix_len-le-length (λ x. not (p x)) xs)

-- what was found is there, and it is the first, where there is one
module _ (r : Option ℕ) (first n : ℕ) (found : MatchOption r (first ≡ n) (λ i. (i ≡ first) × (i < n))) where
  pub first_some : first < n → IsSome r
  first_some l = go r found
    where
      go : (r : Option ℕ) → MatchOption r (first ≡ n) (λ i. (i ≡ first) × (i < n)) → IsSome r
      go None h = absurd (omega arith)
      go (Some i) h = refl

  pub place_is : (i : ℕ) → r ≡ Some i → (i ≡ first) × (i < n)
  place_is i e = rw e at found

pub ticket_first : (ticket : ℕ) (ss : List (Option Batch)) (r : Option ℕ) → length ss ≡ 8 → r ≡ position (has_ticket ticket) ss →
    MatchOption r (slot_of_ticket ticket ss ≡ 8) (λ at. (at ≡ slot_of_ticket ticket ss) × (at < 8))
unfolding slot_of_ticket
ticket_first ticket ss r long e =
    first_is (has_ticket ticket) ss 8 (slot_of_ticket ticket ss) long (is_position_or_len (slot_of_ticket ticket) (has_ticket ticket) refl step ss) r e
  where
    one_more : (t : Bool) (n : ℕ) → cond t 0 (suc n) ≡ cond t 0 (1 + n)
    one_more true n = refl
    one_more false n = omega arith

    step : (s : Option Batch) (ss : List (Option Batch)) → slot_of_ticket ticket (s ∷ ss) ≡ cond (has_ticket ticket s) 0 (1 + slot_of_ticket ticket ss)
    step s ss = one_more (has_ticket ticket s) (slot_of_ticket ticket ss)
