-- What each call answers and leaves, for every record, ring and memory that is lent: the engine's definitions at the record that the bytes
-- stand for. A refused call answers zeros and leaves every byte as it was.
use Rattle.std.specs.Prelude.{◌≡◌, cond, List, [], ◌∷◌, ℕ, length, eqb, Result}
use Rattle.reset.specs.declared.ResetRule.{ResetRule}
use Rattle.engine_record.specs.declared.Window.{Window}
use Rattle.queue.specs.declared.Refusal.{Refusal}
use Rattle.queue.specs.declared.Answer.{Answer}
use Rattle.queue.specs.declared.Reply.{Reply}
use Rattle.queue.specs.Answers.{refusal_number_of, value_of}
use Rattle.queue.specs.Calls.{unless_refused, set_up_result, open_result, submit_result, submit_ring, begin_result, piece_result, piece_ring, cancel_result, close_result, pending_answer}
use Rattle.engine.specs.declared.Completion.{Completion}
use Rattle.engine.specs.declared.RunResult.{RunResult}
use Rattle.engine.specs.Outcome.{run_refusal_of as refusalOf}
use Rattle.engine.specs.Run.{run_result, run_memory}
use Rattle.engine.specs.Close.{close_memory}
use Rattle.engine.specs.Answers.{last_of, five_of}
use Rattle.record_bytes.specs.Read.{record_of}
use Rattle.record_bytes.specs.Written.{bytes_of}

-- ---- set up

-- 11 for a buffer that no record fits in
abbrev pub set_up_number : (bytes : List ℕ) → (ring memory common : ℕ) → ResetRule → ℕ
set_up_number bytes ring memory common reset = cond (eqb (length bytes) 272) (refusal_number_of (set_up_result ring memory common reset).answer) 11

pub record SetsUp (bytes : List ℕ) (ring memory common : ℕ) (reset : ResetRule) (number : ℕ) (bytesNow : List ℕ) : Type 0 where
  pub number_is : number ≡ set_up_number bytes ring memory common reset
  pub record_is : bytesNow ≡ unless_refused (set_up_number bytes ring memory common reset) bytes (bytes_of (set_up_result ring memory common reset).engine)

-- ---- a call that answers one number: the refusal's number, the value, and the bytes of the record; `after` if it is not refused

pub record ValueWritten (bytes after : List ℕ) (answer : Result Answer Refusal) (number value : ℕ) (bytesNow : List ℕ) : Type 0 where
  pub number_is : number ≡ refusal_number_of answer
  pub value_is : value ≡ value_of answer
  pub record_is : bytesNow ≡ unless_refused (refusal_number_of answer) bytes after

-- the value is the client's id
unfoldable pub Opens : (bytes : List ℕ) → Window → (number value : ℕ) → (bytesNow : List ℕ) → Type 0
Opens bytes w =
    let reply : Reply = open_result (record_of bytes) w in
    ValueWritten bytes (bytes_of reply.engine) reply.answer

-- the value is the ticket
pub record Submits (bytes ring : List ℕ) (client : ℕ) (batch : List ℕ) (number value : ℕ) (bytesNow ringNow : List ℕ) : Type 0 where
  pub answered :
      let reply : Reply = submit_result (record_of bytes) ring client batch in
      ValueWritten bytes (bytes_of reply.engine) reply.answer number value bytesNow
  pub ring_is : ringNow ≡ submit_ring (record_of bytes) ring client batch

-- the value is the number of the client's ready batches; the record is only read
pub record Pends (bytes : List ℕ) (client number value : ℕ) : Type 0 where
  pub number_is : number ≡ refusal_number_of (pending_answer (record_of bytes) client)
  pub value_is : value ≡ value_of (pending_answer (record_of bytes) client)

-- ---- begin, pieces, cancel (02, 6)

-- a call that answers nothing
pub record NumberWritten (bytes after : List ℕ) (answer : Result Answer Refusal) (number : ℕ) (bytesNow : List ℕ) : Type 0 where
  pub number_is : number ≡ refusal_number_of answer
  pub record_is : bytesNow ≡ unless_refused (refusal_number_of answer) bytes after

-- the ring is only asked for its length
unfoldable pub Begins : (bytes ring : List ℕ) → (client total number : ℕ) → (bytesNow : List ℕ) → Type 0
Begins bytes ring client total =
    let reply : Reply = begin_result (record_of bytes) (length ring) client total in
    NumberWritten bytes (bytes_of reply.engine) reply.answer

unfoldable pub Cancels : (bytes : List ℕ) → (client number : ℕ) → (bytesNow : List ℕ) → Type 0
Cancels bytes client =
    let reply : Reply = cancel_result (record_of bytes) client in
    NumberWritten bytes (bytes_of reply.engine) reply.answer

-- a piece answers two numbers: 0 and the bytes still to come, or, of the last, 1 and the ticket
pub record ProgressWritten (bytes after : List ℕ) (answer : Result Answer Refusal) (number : ℕ) (two bytesNow : List ℕ) : Type 0 where
  pub number_is : number ≡ refusal_number_of answer
  pub two_are : two ≡ last_of answer ∷ value_of answer ∷ []
  pub record_is : bytesNow ≡ unless_refused (refusal_number_of answer) bytes after

pub record HandsOver (bytes ring : List ℕ) (client : ℕ) (piece : List ℕ) (number : ℕ) (two bytesNow ringNow : List ℕ) : Type 0 where
  pub answered :
      let reply : Reply = piece_result (record_of bytes) ring client piece in
      ProgressWritten bytes (bytes_of reply.engine) reply.answer number two bytesNow
  pub ring_is : ringNow ≡ piece_ring (record_of bytes) ring client piece

-- ---- close (02, 11)

pub record Closes (bytes memory : List ℕ) (client number : ℕ) (bytesNow memoryNow : List ℕ) : Type 0 where
  pub answered :
      let reply : Reply = close_result (record_of bytes) (length memory) client in
      NumberWritten bytes (bytes_of reply.engine) reply.answer number bytesNow
  pub memory_is : memoryNow ≡ close_memory (record_of bytes) memory client

-- ---- run

pub record Reports (bytes after : List ℕ) (outcome : Result Completion Refusal) (number : ℕ) (five bytesNow : List ℕ) : Type 0 where
  pub number_is : number ≡ refusalOf outcome
  pub five_are : five ≡ five_of outcome
  pub record_is : bytesNow ≡ unless_refused (refusalOf outcome) bytes after

pub record Runs (bytes ring memory : List ℕ) (number : ℕ) (five bytesNow memoryNow : List ℕ) : Type 0 where
  pub reports :
      let ran : RunResult = run_result (record_of bytes) ring memory in
      Reports bytes (bytes_of ran.engine) ran.outcome number five bytesNow
  pub memory_is : memoryNow ≡ run_memory (record_of bytes) ring memory
