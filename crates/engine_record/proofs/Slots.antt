-- Laws of the slots, one slot at a time.
use Rattle.std.proofs.Common.{◌≡◌, ℕ, suc, ◌+◌, ◌<◌, ◌≤◌, Bool, true, false, cond, eqb, List, [], ◌∷◌, length, get_or, drop, sym, refl, add-one, arith, drop_of_length-le, drop-cons, ◌∙◌, is_some, count_by, Option, Some, None}
use Rattle.std.proofs.lemmas.List.Recursion.{is_count_by}
use Rattle.engine_record.specs.declared.Batch.{Batch}
use Rattle.engine_record.specs.Slots.{free, cons_if_ready, ready_batches, sum_over, count_of, is_free_state, lowest_free}

-- what one slot adds to a sum
pub sum_added : (f : Batch → ℕ) (s : Option Batch) (bs : List Batch) → sum_over f (cons_if_ready s bs) ≡ sum_over f (cons_if_ready s []) + sum_over f bs
unfolding sum_over
sum_added f None bs = omega arith
sum_added f (Some b) bs = omega arith

-- the number of batches is a sum too, so that what holds of sums holds of it
pub length-sum : (bs : List Batch) → length bs ≡ sum_over (λ b. 1) bs
unfolding sum_over
length-sum [] = refl
length-sum (b ∷ bs) = omega (arith, length-sum bs)

-- a sum of at most 1 for each
pub sum_most : (f : Batch → ℕ) → ((b : Batch) → f b ≤ 1) → (bs : List Batch) → sum_over f bs ≤ length bs
unfolding sum_over
sum_most f h [] = omega arith
sum_most f h (b ∷ bs) = omega (arith, h b, sum_most f h bs)

-- a slot is free just where no batch is in it
turned : (s : Option Batch) (n : ℕ) → cond (is_free_state s) 0 (suc n) ≡ cond (is_some s) (suc n) 0
turned None n = refl
turned (Some b) n = refl

module _ (xs : List (Option Batch)) (i : ℕ) (h : i < length xs) where
  ready-step : ready_batches (drop i xs) ≡ cons_if_ready (get_or xs i free) (ready_batches (drop (i + 1) xs))
  unfolding ready_batches
  ready-step = rw (add-one, drop-cons xs i free)

  lowest_step : lowest_free (drop i xs) ≡ cond (is_some (get_or xs i free)) (suc (lowest_free (drop (i + 1) xs))) 0
  unfolding lowest_free
  lowest_step = rw (add-one, drop-cons xs i free) (turned (get_or xs i free) _)

  pub lowest_here : is_some (get_or xs i free) ≡ false → lowest_free (drop i xs) ≡ 0
  lowest_here e = rw (lowest_step, e)

  pub lowest_later : is_some (get_or xs i free) ≡ true → lowest_free (drop i xs) ≡ suc (lowest_free (drop (i + 1) xs))
  lowest_later e = rw (lowest_step, e)

  pub sum_ready : (f : Batch → ℕ) (b : Batch) → get_or xs i free ≡ Some b → sum_over f (ready_batches (drop i xs)) ≡ f b + sum_over f (ready_batches (drop (i + 1) xs))
  unfolding sum_over
  sum_ready f b e = rw (ready-step, e)

  pub sum_free : (f : Batch → ℕ) → get_or xs i free ≡ None → sum_over f (ready_batches (drop i xs)) ≡ sum_over f (ready_batches (drop (i + 1) xs))
  sum_free f e = rw (ready-step, e)

module _ (xs : List (Option Batch)) (i : ℕ) (h : length xs ≤ i) where
  ready-end : ready_batches (drop i xs) ≡ []
  unfolding ready_batches
  ready-end = rw (drop_of_length-le xs h)

  pub sum-end : (f : Batch → ℕ) → sum_over f (ready_batches (drop i xs)) ≡ 0
  unfolding sum_over
  sum-end f = rw ready-end

  pub lowest-end : lowest_free (drop i xs) ≡ 0
  unfolding lowest_free
  lowest-end = rw (drop_of_length-le xs h)

-- the slot is ready with a batch of the client's
abbrev pub is_owned : ℕ → Option Batch → Bool
is_owned client None = false
is_owned client (Some b) = eqb b.client client

-- no more batches are ready than there are slots
pub ready_most : (ss : List (Option Batch)) → length (ready_batches ss) ≤ length ss
unfolding ready_batches
ready_most [] = omega arith
ready_most (s ∷ ss) = go s (ready_most ss)
  where
    go : (q : Option Batch) → length (ready_batches ss) ≤ length ss → length (cons_if_ready q (ready_batches ss)) ≤ suc (length ss)
    go None h = omega arith
    go (Some b) h = omega arith

-- how many ready batches a test holds of: no more than there are slots
pub count_most : (test : Batch → Bool) (ss : List (Option Batch)) → sum_over (λ b. cond (test b) 1 0) (ready_batches ss) ≤ length ss
count_most test ss = omega (arith, sum_most (λ b. cond (test b) 1 0) (λ b. one (test b)) (ready_batches ss), ready_most ss)
  where
    one : (t : Bool) → cond t 1 0 ≤ 1
    one true = omega arith
    one false = omega arith

-- the ready batches are as many as the slots that are not free, and those of a client as many as the slots that have them
pub ready_is : (ss : List (Option Batch)) (n : ℕ) → length ss ≡ 8 → n ≡ count_by is_some ss → (n ≡ length (ready_batches ss)) × (n ≤ 8)
unfolding ready_batches
ready_is ss n long e =
    let s : length (ready_batches ss) ≡ count_by is_some ss = is_count_by (λ ss. length (ready_batches ss)) is_some refl step ss in
    (e ∙ sym s, omega (arith, s, ready_most ss))
  where
    step : (s : Option Batch) (ss : List (Option Batch)) → length (ready_batches (s ∷ ss)) ≡ cond (is_some s) (1 + length (ready_batches ss)) (length (ready_batches ss))
    step None ss = refl
    step (Some b) ss = omega arith

pub owned_is : (client : ℕ) (ss : List (Option Batch)) (n : ℕ) → n ≡ count_by (is_owned client) ss → n ≡ count_of client (ready_batches ss)
unfolding ready_batches sum_over
owned_is client ss n e = e ∙ sym (is_count_by (λ ss. count_of client (ready_batches ss)) (is_owned client) refl step ss)
  where
    added : (t : Bool) (n : ℕ) → cond t 1 0 + n ≡ cond t (1 + n) n
    added true n = refl
    added false n = omega arith

    step : (s : Option Batch) (ss : List (Option Batch)) → count_of client (ready_batches (s ∷ ss)) ≡ cond (is_owned client s) (1 + count_of client (ready_batches ss)) (count_of client (ready_batches ss))
    step None ss = refl
    step (Some b) ss = added (eqb b.client client) (count_of client (ready_batches ss))
