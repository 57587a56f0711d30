-- The staged submission (02, 6: hand-over): the unfinished batch of a client that hands it over by pieces, or none. "One hand-over at a time".
use Rattle.std.specs.Prelude.{ℕ, ◌-◌, Bool, false, cond, ◌&&◌, List, ◌==◌, nat_lt, slice_index_or, Option}
use Rattle.engine_record.specs.declared.Batch.{Batch}
use Rattle.engine_record.specs.declared.Staged.{Staged}
use Rattle.engine_record.specs.Slots.{free, is_free_state}

-- none: no number of an earlier one stays behind
abbrev pub no_staged : Staged
no_staged = record { client = 0; slot = 0; total = 0; received = 0 }

-- none is open (02, 6, 13: "a hand-over is open"): 6 allows no batch of length 0
abbrev pub is_idle : Staged → Bool
is_idle g = g.total == 0

-- one is open, and it is this client's (02, 6, 14: "none open for this desk")
abbrev pub staged_by : Staged → ℕ → Bool
staged_by g client = cond (is_idle g) false (g.client == client)

-- 02, 6: "the bytes still to come"
abbrev pub missing_bytes : Staged → ℕ
missing_bytes g = g.total - g.received

-- 02, 6: "one slot held"
abbrev pub staged_slots : Staged → ℕ
staged_slots g = cond (is_idle g) 0 1

-- there is such a slot, and no ready batch is in it
abbrev pub slot_held : List (Option Batch) → ℕ → Bool
slot_held slots at = nat_lt at 8 && is_free_state (slice_index_or slots at free)
