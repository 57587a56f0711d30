-- The engine over a list of calls: each call is what its contract says it is (crates queue and engine, specs), and finds record, ring and
-- memory as the call before it left them.
use Rattle.std.specs.Prelude.{◌≡◌, List, [], ◌∷◌, ℕ, zero, suc, length, Result, Ok, Err}
use Rattle.engine_record.specs.declared.EngineRecord.{EngineRecord}
use Rattle.queue.specs.declared.Refusal.{Refusal}
use Rattle.queue.specs.declared.Answer.{Answer as QueueAnswer}
use Rattle.queue.specs.declared.Answer.TheVariants.{Done, Opened, Accepted, Ready, Missing}
use Rattle.queue.specs.declared.Reply.{Reply}
use Rattle.queue.specs.Answers.{number_of, refusal_number_of, value_of}
use Rattle.queue.specs.Calls.{set_up_result, open_result, submit_result, submit_ring, begin_result, piece_result, piece_ring, cancel_result, close_result, pending_answer}
use Rattle.engine.specs.declared.RunResult.{RunResult}
use Rattle.engine.specs.Outcome.{CompletionValues, run_refusal_of as refusalOf, values_of}
use Rattle.engine.specs.Run.{run_result, run_memory}
use Rattle.engine.specs.Close.{close_memory}
use Rattle.model.specs.Calls.{Setup, Call, opens, submit, run, pending, begin, piece, cancel, close, Answer, opened, accepted, completed, ready, missing, done, refused}

-- the engine record, and the ring and memory that are lent to every call
pub record State : Type 0 where
  pub engine : EngineRecord
  pub ring : List ℕ
  pub memory : List ℕ

abbrev pub mk_state : EngineRecord → (ring memory : List ℕ) → State
mk_state engine ring memory = record { engine = engine; ring = ring; memory = memory }

-- what a call answered, and what it left
pub record CallResult : Type 0 where
  pub answer : Answer
  pub after : State

-- the refusal's number, 0 for none, and what is answered without one
unfoldable pub answer_or_refusal : (number : ℕ) → Answer → Answer
answer_or_refusal zero answer = answer
answer_or_refusal (suc n) answer = refused (suc n)

-- run's five values
abbrev pub completion : CompletionValues → Answer
completion v = completed v.client v.ticket (record { status = v.status; fault = v.fault; offset = v.offset })

-- The model's answer for the queue's, used of a piece. 02, 6: "A piece answers the bytes still to come, the last its ticket."
abbrev pub model_answer_of : QueueAnswer → Answer
model_answer_of (Accepted ticket) = accepted ticket
model_answer_of (Missing bytes) = missing bytes
model_answer_of (Opened client) = opened client
model_answer_of (Ready count) = ready count
model_answer_of Done = done

-- refused or not
abbrev pub model_reply_of : Result QueueAnswer Refusal → Answer
model_reply_of (Ok answer) = model_answer_of answer
model_reply_of (Err refusal) = refused (number_of refusal)

-- a run that gave this result and left this memory (01, "Engine, desks, queue": run)
abbrev pub run_call : State → RunResult → (memory : List ℕ) → CallResult
run_call s r memory = record {
  answer = answer_or_refusal (refusalOf r.outcome) (completion (values_of r.outcome));
  after = mk_state r.engine s.ring memory;
}

unfoldable pub perform_call : Call → State → CallResult
perform_call (opens w) s =
    let r : Reply = open_result s.engine (record { start = w.start; length = w.length }) in
    record { answer = answer_or_refusal (refusal_number_of r.answer) (opened (value_of r.answer)); after = mk_state r.engine s.ring s.memory }
perform_call (submit client bytes) s =
    let r : Reply = submit_result s.engine s.ring client bytes in
    record {
      answer = answer_or_refusal (refusal_number_of r.answer) (accepted (value_of r.answer));
      after = mk_state r.engine (submit_ring s.engine s.ring client bytes) s.memory;
    }
perform_call run s = run_call s (run_result s.engine s.ring s.memory) (run_memory s.engine s.ring s.memory)
perform_call (pending client) s =
    let a : Result QueueAnswer Refusal = pending_answer s.engine client in
    record { answer = answer_or_refusal (refusal_number_of a) (ready (value_of a)); after = s }
perform_call (begin client total) s =
    let r : Reply = begin_result s.engine (length s.ring) client total in
    record { answer = answer_or_refusal (refusal_number_of r.answer) done; after = mk_state r.engine s.ring s.memory }
perform_call (piece client bytes) s =
    let r : Reply = piece_result s.engine s.ring client bytes in
    record {
      answer = answer_or_refusal (refusal_number_of r.answer) (model_reply_of r.answer);
      after = mk_state r.engine (piece_ring s.engine s.ring client bytes) s.memory;
    }
perform_call (cancel client) s =
    let r : Reply = cancel_result s.engine client in
    record { answer = answer_or_refusal (refusal_number_of r.answer) done; after = mk_state r.engine s.ring s.memory }
perform_call (close client) s =
    let r : Reply = close_result s.engine (length s.memory) client in
    record {
      answer = answer_or_refusal (refusal_number_of r.answer) done;
      after = mk_state r.engine s.ring (close_memory s.engine s.memory client);
    }

-- ---- a list of calls

unfoldable pub answers_of : List Call → State → List Answer
answers_of [] s = []
answers_of (c ∷ cs) s = (perform_call c s).answer ∷ answers_of cs (perform_call c s).after

unfoldable pub state_after : List Call → State → State
state_after [] s = s
state_after (c ∷ cs) s = state_after cs (perform_call c s).after

-- the memory after each call, in order
unfoldable pub memories_of : List Call → State → List (List ℕ)
memories_of [] s = []
memories_of (c ∷ cs) s = (perform_call c s).after.memory ∷ memories_of cs (perform_call c s).after

-- ---- the start

-- set up is not refused
abbrev pub SetUpAccepted : Setup → Type 0
SetUpAccepted setup = refusal_number_of (set_up_result setup.ring setup.memory setup.common setup.reset).answer ≡ 0

-- 01, "The book of demand 3": "The list starts from the record of an accepted set up"; ring and memory are any
abbrev pub initial_state : Setup → (ring memory : List ℕ) → State
initial_state setup ring memory = mk_state (set_up_result setup.ring setup.memory setup.common setup.reset).engine ring memory
