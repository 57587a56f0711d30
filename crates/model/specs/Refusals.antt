-- When a call is refused: the table of 01, "Engine, desks, queue", with 13 and 14 of 02, 6, and 18 of 02, 11, for the calls after set up. No
-- engine is asked. A number at the head of a comment is the row's.
use Rattle.std.specs.Prelude.{List, [], ◌∷◌, Bool, ◌||◌, cond, not, ℕ, ◌+◌, ◌-◌, ◌%◌, length, ltb, eqb, leb}
use Rattle.model.specs.Windows.{Window, window, overlap, overlap_any}
use Rattle.model.specs.Calls.{Setup, Call, opens, submit, run, pending, begin, piece, cancel, close}
use Rattle.model.specs.State.{Model, is_open, open_windows, is_idle, staged_by, missing_bytes, taken_slots, taken_bytes, count_of}

infix 70 ◌when◌
-- A row of the table: its number, and whether its condition holds.
pub data RefusalRow : Type 0 where
  ◌when◌ : ℕ → Bool → RefusalRow

-- 4: "window empty, past memory's end, or sharing a byte with common or another window".
abbrev pub bad_window : Setup → Model → Window → Bool
bad_window setup model w =
    eqb w.length 0 || ltb setup.memory (w.start + w.length) || overlap w (window 0 setup.common) || overlap_any w (open_windows model)

-- 6: "length 0, no multiple of 4, or over the ring length".
abbrev pub bad_length : Setup → ℕ → Bool
bad_length setup size = eqb size 0 || not (eqb (size % 4) 0) || ltb setup.ring size

-- 8: "free ring bytes are the ring less the waiting lengths" (01, "The book of demand 3").
abbrev pub free_bytes : Setup → Model → ℕ
free_bytes setup model = setup.ring - taken_bytes model

-- Submit and begin, of a batch of that length (02, 6: "Beginning makes the checks of submit"; 13 comes "after 5").
abbrev pub batch_rows : Setup → (ring : ℕ) → Model → (client size : ℕ) → List RefusalRow
batch_rows setup ring model client size =
    10 when not (eqb ring setup.ring)
    ∷ 5 when not (is_open model client)
    ∷ 13 when not (is_idle model.staged)
    ∷ 6 when bad_length setup size
    ∷ 7 when leb 8 (taken_slots model)
    ∷ 8 when ltb (free_bytes setup model) size
    ∷ []

-- Each call's rows, in the order below the table: "11 first, then 10, then as listed downward"; 13, 14 and 18 come "after 5". 11 never comes:
-- there is no record that could break a rule. ring: the length of the lent ring; the lent memory is the model's.
unfoldable pub refusal_table : Setup → (ring : ℕ) → Model → Call → List RefusalRow
refusal_table setup ring model (opens w) =
    3 when leb 4 (length (open_windows model))
    ∷ 4 when bad_window setup model w
    ∷ []
refusal_table setup ring model (submit client bytes) = batch_rows setup ring model client (length bytes)
refusal_table setup ring model run =
    10 when (not (eqb ring setup.ring) || not (eqb (length model.memory) setup.memory))
    ∷ 9 when eqb (length model.waiting) 0
    ∷ []
refusal_table setup ring model (pending client) =
    5 when not (is_open model client)
    ∷ []
refusal_table setup ring model (begin client total) = batch_rows setup ring model client total
refusal_table setup ring model (piece client bytes) =
    10 when not (eqb ring setup.ring)
    ∷ 5 when not (is_open model client)
    ∷ 14 when (not (staged_by model.staged client) || ltb (missing_bytes model.staged) (length bytes))
    ∷ []
refusal_table setup ring model (cancel client) =
    5 when not (is_open model client)
    ∷ 14 when not (staged_by model.staged client)
    ∷ []
refusal_table setup ring model (close client) =
    10 when not (eqb (length model.memory) setup.memory)
    ∷ 5 when not (is_open model client)
    ∷ 18 when (ltb 0 (count_of client model.waiting) || staged_by model.staged client)
    ∷ []

-- The first row whose condition holds; 0 if there is none: the call is not refused.
unfoldable pub first_holding : List RefusalRow → ℕ
first_holding [] = 0
first_holding ((number when holds) ∷ rows) = cond holds number (first_holding rows)

-- What a call is refused with; 0 if it is not.
abbrev pub refusal : Setup → (ring : ℕ) → Model → Call → ℕ
refusal setup ring model call = first_holding (refusal_table setup ring model call)
