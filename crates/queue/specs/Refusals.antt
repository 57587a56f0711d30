-- When a call is refused (01, "Engine, desks, queue", the table and the order below it: "11 first, then 10, then as listed downward"; 02, 6 and 11: 13, 14
-- and 18 stand "after 5").
use Rattle.std.specs.Prelude.{ℕ, Bool, cond, not, ◌||◌, ltb, List, [], ◌∷◌, length, ◌==◌, nat_le, nat_lt}
use Rattle.engine_record.specs.declared.Setup.{Setup}
use Rattle.engine_record.specs.declared.Window.{Window}
use Rattle.engine_record.specs.declared.EngineRecord.{EngineRecord}
use Rattle.engine_record.specs.Setup.{bad_ring, bad_memory, bad_length}
use Rattle.engine_record.specs.Slots.{ready_batches, count_of}
use Rattle.engine_record.specs.Clients.{is_open, open_windows, bad_window}
use Rattle.engine_record.specs.Staged.{is_idle, staged_by, missing_bytes}
use Rattle.engine_record.specs.Queue.{taken_slots, free_bytes}
use Rattle.engine_record.specs.Rules.{valid}

infix 70 ◌when◌
-- A row of the table: its number, and whether its condition holds.
pub data RefusalRow : Type 0 where
  ◌when◌ : ℕ → Bool → RefusalRow

-- The first row whose condition holds; 0 if there is none: the call is not refused.
unfoldable pub first_refusal : List RefusalRow → ℕ
first_refusal [] = 0
first_refusal ((number when holds) ∷ rows) = cond holds number (first_refusal rows)

-- set up
abbrev pub set_up_table : Setup → List RefusalRow
set_up_table setup =
    1 when bad_ring setup
    ∷ 2 when bad_memory setup
    ∷ []

-- open; '"Four desks open" counts open ones' (02, 11)
abbrev pub open_table : EngineRecord → Window → List RefusalRow
open_table engine w =
    11 when not (valid engine)
    ∷ 3 when nat_le 4 (length (open_windows engine))
    ∷ 4 when bad_window engine.setup (open_windows engine) w
    ∷ []

-- submit and begin ("Beginning makes the checks of submit"); lent: the length of the ring that is lent; size: the batch's length
abbrev pub submit_table : EngineRecord → (lent client size : ℕ) → List RefusalRow
submit_table engine lent client size =
    11 when not (valid engine)
    ∷ 10 when not (lent == engine.setup.ring)
    ∷ 5 when not (is_open engine client)
    ∷ 13 when not (is_idle engine.staged)
    ∷ 6 when bad_length engine.setup.ring size
    ∷ 7 when nat_le 8 (taken_slots engine)
    ∷ 8 when ltb (free_bytes engine) size
    ∷ []

-- a piece; size: its length
abbrev pub piece_table : EngineRecord → (lent client size : ℕ) → List RefusalRow
piece_table engine lent client size =
    11 when not (valid engine)
    ∷ 10 when not (lent == engine.setup.ring)
    ∷ 5 when not (is_open engine client)
    ∷ 14 when (not (staged_by engine.staged client) || nat_lt (missing_bytes engine.staged) size)
    ∷ []

-- cancel; no ring is lent to it
abbrev pub cancel_table : EngineRecord → (client : ℕ) → List RefusalRow
cancel_table engine client =
    11 when not (valid engine)
    ∷ 5 when not (is_open engine client)
    ∷ 14 when not (staged_by engine.staged client)
    ∷ []

-- close (02, 11: "It needs no ready batch and no open hand-over of that desk"); lent: the length of the memory that is lent
abbrev pub close_table : EngineRecord → (lent client : ℕ) → List RefusalRow
close_table engine lent client =
    11 when not (valid engine)
    ∷ 10 when not (lent == engine.setup.memory)
    ∷ 5 when not (is_open engine client)
    ∷ 18 when (nat_lt 0 (count_of client (ready_batches engine.slots)) || staged_by engine.staged client)
    ∷ []

-- pending
abbrev pub pending_table : EngineRecord → (client : ℕ) → List RefusalRow
pending_table engine client =
    11 when not (valid engine)
    ∷ 5 when not (is_open engine client)
    ∷ []
