-- What is called and what is answered (01, "Engine, desks, queue"). Numbers in calls are any naturals.
use Rattle.std.specs.Prelude.{List, [], ◌∷◌, ℕ, suc}
use Rattle.reset.specs.declared.ResetRule.{ResetRule}
use Rattle.model.specs.Windows.{Window}

-- 01, "Engine, desks, queue": "Set up with a ring length, a memory length and a common length", in bytes; and the reset rule (02, request 2), which
-- says how batches are judged and drawn (crate claims) and is looked at nowhere here.
pub record Setup : Type 0 where
  pub ring : ℕ
  pub memory : ℕ
  pub common : ℕ
  pub reset : ResetRule

-- The calls after set up, with what the model is fed of them (01, "The book of demand 3": "the calls with their arguments (not record,
-- ring or memory)"; 02, 6: "Demand 3's list gains begin, pieces and cancelling"; 02, 11: "Closing joins the list").
pub data Call : Type 0 where
  opens : Window → Call
  submit : (client : ℕ) (bytes : List ℕ) → Call
  run : Call
  pending : (client : ℕ) → Call
  begin : (client total : ℕ) → Call
  piece : (client : ℕ) (bytes : List ℕ) → Call
  cancel : (client : ℕ) → Call
  close : (client : ℕ) → Call

-- What validating a batch gives (01, "Faults of a taken batch"): the status word, the fault's number and its offset in the batch
-- (01: place), the last two 0 without a fault.
pub record CompletionStatus : Type 0 where
  pub status : ℕ
  pub fault : ℕ
  pub offset : ℕ

-- What is answered (01, "Engine, desks, queue"): by open the client's id, by submit the ticket, by run its completion, by pending the
-- number of the client's ready batches. 02, 6: "A piece answers the bytes still to come, the last its ticket." Begin, cancelling and closing
-- have nothing to answer. "A refusal gives only its number."
pub data Answer : Type 0 where
  opened : (client : ℕ) → Answer
  accepted : (ticket : ℕ) → Answer
  completed : (client ticket : ℕ) → CompletionStatus → Answer
  ready : (count : ℕ) → Answer
  missing : (bytes : ℕ) → Answer
  done : Answer
  refused : (number : ℕ) → Answer

-- How many of the answers are completions: the successful runs of 01, "Engine, desks, queue".
unfoldable pub completions : List Answer → ℕ
completions [] = 0
completions (completed c t v ∷ rest) = suc (completions rest)
completions (opened c ∷ rest) = completions rest
completions (accepted t ∷ rest) = completions rest
completions (ready n ∷ rest) = completions rest
completions (missing n ∷ rest) = completions rest
completions (done ∷ rest) = completions rest
completions (refused n ∷ rest) = completions rest
