-- What run answers, in the paper's numbers (01, "Engine, desks, queue").
use Rattle.std.specs.Prelude.{ℕ, Result, Ok, Err}
use Rattle.batch.specs.Batch.{status_word_of, fault_number_of as faultOf, fault_offset_of}
use Rattle.queue.specs.declared.Refusal.{Refusal}
use Rattle.queue.specs.Answers.{refusal_number_of}
use Rattle.engine.specs.declared.Completion.{Completion}

-- "answers desk, ticket, status, fault and place (the last two 0 without a fault)"
pub record CompletionValues : Type 0 where
  pub client : ℕ
  pub ticket : ℕ
  pub status : ℕ
  pub fault : ℕ
  pub offset : ℕ

-- the refusal's number, 0 if the call was not refused
abbrev pub run_refusal_of : Result Completion Refusal → ℕ
run_refusal_of outcome = refusal_number_of outcome

-- "A refusal gives only its number."
abbrev pub values_of : Result Completion Refusal → CompletionValues
values_of (Err refusal) = record { client = 0; ticket = 0; status = 0; fault = 0; offset = 0 }
values_of (Ok c) = record {
  client = c.client;
  ticket = c.ticket;
  status = status_word_of c.verdict;
  fault = faultOf c.verdict;
  offset = fault_offset_of c.verdict;
}
