-- The slots and the ready batches in them (01, "Engine, desks, queue": "A slot is free, or ready with its desk and ticket,
-- offset and length").
use Rattle.std.specs.Prelude.{ℕ, suc, ◌+◌, Bool, true, false, cond, List, [], ◌∷◌, ◌==◌, Option, Some, None}
use Rattle.engine_record.specs.declared.Batch.{Batch}

-- a slot that is free
abbrev pub free : Option Batch
free = None

-- a slot that is ready with a batch
abbrev pub ready_with : Batch → Option Batch
ready_with b = Some b

-- what a slot adds to the ready batches of the slots after it
abbrev pub cons_if_ready : Option Batch → List Batch → List Batch
cons_if_ready None bs = bs
cons_if_ready (Some b) bs = b ∷ bs

-- the ready batches, slot by slot
unfoldable pub ready_batches : List (Option Batch) → List Batch
ready_batches [] = []
ready_batches (s ∷ ss) = cons_if_ready s (ready_batches ss)

-- a number of each batch, summed
unfoldable pub sum_over : (Batch → ℕ) → List Batch → ℕ
sum_over f [] = 0
sum_over f (b ∷ bs) = f b + sum_over f bs

-- the batches' lengths, summed
abbrev pub total_length : List Batch → ℕ
total_length bs = sum_over (λ b. b.length) bs

-- how many of the batches are the client's
abbrev pub count_of : ℕ → List Batch → ℕ
count_of client bs = sum_over (λ b. cond (b.client == client) 1 0) bs

-- no batch is in the slot
abbrev pub is_free_state : Option Batch → Bool
is_free_state None = true
is_free_state (Some b) = false

-- the lowest free slot; the number of slots if none is free
unfoldable pub lowest_free : List (Option Batch) → ℕ
lowest_free [] = 0
lowest_free (s ∷ ss) = cond (is_free_state s) 0 (suc (lowest_free ss))
