-- The fast engine and the slow one give the same memory and answers (02, request 13). `run_both` promises it on every record, ring and memory, refused
-- and faulty ones included: it asks nothing of them, but that both engines begin with the same memory.
use Rattle.std.specs.Prelude.{◌≡◌, List, ℕ}
use Rattle.run.specs.declared.both.Both.{Both}

-- r is what both answered; the memory that either left
pub record SameRun (r : Both) (fast slow : List ℕ) : Type 0 where
  -- the outcome, and the record that the next call is handed
  pub answers : r.fast ≡ r.slow
  pub memory : fast ≡ slow
