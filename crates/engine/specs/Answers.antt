-- What a call answers, as six words of 32 bits. The first is the refusal's number, 0 without one; then what is answered (01, "Engine, desks,
-- queue"), by open the id, by submit the ticket, by pending the count, by run client, ticket, status, fault and place. Unused words are zero.
use Rattle.std.specs.Prelude.{List, [], ◌∷◌, ℕ, ◌≤◌, Result, Ok, Err}
use Rattle.queue.specs.declared.Refusal.{Refusal}
use Rattle.queue.specs.declared.Answer.{Answer}
use Rattle.queue.specs.declared.Answer.TheVariants.{Done, Opened, Accepted, Ready, Missing}
use Rattle.queue.specs.Answers.{refusal_number_of, value_of}
use Rattle.engine.specs.declared.Completion.{Completion}
use Rattle.engine.specs.Outcome.{run_refusal_of, values_of}

-- a refusal's number, 0 for none, and one number more
abbrev pub short_answer : (number value : ℕ) → List ℕ
short_answer number value = number ∷ value ∷ 0 ∷ 0 ∷ 0 ∷ 0 ∷ []

-- a piece is the last one: it is answered with a ticket
abbrev pub last_of : Result Answer Refusal → ℕ
last_of (Err refusal) = 0
last_of (Ok Done) = 0
last_of (Ok (Opened client)) = 0
last_of (Ok (Accepted ticket)) = 1
last_of (Ok (Ready count)) = 0
last_of (Ok (Missing bytes)) = 0

-- Internal: a piece's six (02, 6): 0 and the bytes still to come, or, of the last, 1 and the ticket
abbrev pub piece_words : Result Answer Refusal → List ℕ
piece_words answer = refusal_number_of answer ∷ last_of answer ∷ value_of answer ∷ 0 ∷ 0 ∷ 0 ∷ []

-- run's five: client, ticket, status, fault, place
abbrev pub five_of : Result Completion Refusal → List ℕ
five_of o = (values_of o).client ∷ (values_of o).ticket ∷ (values_of o).status ∷ (values_of o).fault ∷ (values_of o).offset ∷ []

-- Internal: run's six
abbrev pub run_words : Result Completion Refusal → List ℕ
run_words o = run_refusal_of o ∷ five_of o

-- Internal: status and offset of an outcome fit in words
pub record OutcomeFitsWords (outcome : Result Completion Refusal) : Type 0 where
  pub status : (values_of outcome).status ≤ 4294967295
  pub offset : (values_of outcome).offset ≤ 4294967295
