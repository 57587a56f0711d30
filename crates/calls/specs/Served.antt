-- A server's loop: set up, and then any calls one at a time, each given the record's bytes, the ring and the memory as the call before it left
-- them, and each as its contract (specs/Calls) says. proofs/ServerLoop/Served.antt proves the promise.
use Rattle.std.specs.Prelude.{◌≡◌, List, [], ◌∷◌, ℕ, zero, suc, ◌<◌, ◌^◌, length}
use Rattle.model.specs.Windows.{Window}
use Rattle.model.specs.Calls.{Setup, Call, opens, submit, run, pending, begin, piece, cancel, close, Answer, opened, accepted, completed, ready, missing, done}
use Rattle.model.specs.State.{initial_model}
use Rattle.model.specs.Model.{answers, model_after_all}
use Rattle.claims.specs.ModelProperties.{batch_semantics}
use Rattle.claims.specs.Engine.{answer_or_refusal}
use Rattle.claims.specs.Ring.{ring_after_calls}
use Rattle.calls.specs.Calls.{SetsUp, Opens, Submits, Begins, HandsOver, Cancels, Closes, Pends, Runs}

-- what the caller lends
pub record CallBuffers : Type 0 where
  pub bytes : List ℕ
  pub ring : List ℕ
  pub memory : List ℕ

-- ---- one call: what is lent before it, its answer, and what is lent after it

pub record ServesOpen (w : Window) (s : CallBuffers) (a : Answer) (t : CallBuffers) : Type 0 where
  pub number : ℕ
  pub value : ℕ
  pub contract : Opens s.bytes (record { start = w.start; length = w.length }) number value t.bytes
  pub answer : a ≡ answer_or_refusal number (opened value)
  pub ring : t.ring ≡ s.ring
  pub memory : t.memory ≡ s.memory

pub record ServesSubmit (client : ℕ) (batch : List ℕ) (s : CallBuffers) (a : Answer) (t : CallBuffers) : Type 0 where
  pub number : ℕ
  pub value : ℕ
  pub contract : Submits s.bytes s.ring client batch number value t.bytes t.ring
  pub answer : a ≡ answer_or_refusal number (accepted value)
  pub memory : t.memory ≡ s.memory

pub record ServesRun (s : CallBuffers) (a : Answer) (t : CallBuffers) : Type 0 where
  pub number : ℕ
  pub client : ℕ
  pub ticket : ℕ
  pub status : ℕ
  pub fault : ℕ
  pub place : ℕ
  pub contract : Runs s.bytes s.ring s.memory number (client ∷ ticket ∷ status ∷ fault ∷ place ∷ []) t.bytes t.memory
  pub answer : a ≡ answer_or_refusal number (completed client ticket (record { status = status; fault = fault; offset = place }))
  pub ring : t.ring ≡ s.ring

pub record ServesPending (client : ℕ) (s : CallBuffers) (a : Answer) (t : CallBuffers) : Type 0 where
  pub number : ℕ
  pub value : ℕ
  pub contract : Pends s.bytes client number value
  pub answer : a ≡ answer_or_refusal number (ready value)
  pub same : t ≡ s

pub record ServesBegin (client total : ℕ) (s : CallBuffers) (a : Answer) (t : CallBuffers) : Type 0 where
  pub number : ℕ
  pub contract : Begins s.bytes s.ring client total number t.bytes
  pub answer : a ≡ answer_or_refusal number done
  pub ring : t.ring ≡ s.ring
  pub memory : t.memory ≡ s.memory

-- a piece's two numbers: with 0 the bytes still to come, with 1 the ticket
abbrev pub of_piece : (last value : ℕ) → Answer
of_piece zero value = missing value
of_piece (suc n) value = accepted value

pub record ServesPiece (client : ℕ) (bytes : List ℕ) (s : CallBuffers) (a : Answer) (t : CallBuffers) : Type 0 where
  pub number : ℕ
  pub last : ℕ
  pub value : ℕ
  pub contract : HandsOver s.bytes s.ring client bytes number (last ∷ value ∷ []) t.bytes t.ring
  pub answer : a ≡ answer_or_refusal number (of_piece last value)
  pub memory : t.memory ≡ s.memory

pub record ServesCancel (client : ℕ) (s : CallBuffers) (a : Answer) (t : CallBuffers) : Type 0 where
  pub number : ℕ
  pub contract : Cancels s.bytes client number t.bytes
  pub answer : a ≡ answer_or_refusal number done
  pub ring : t.ring ≡ s.ring
  pub memory : t.memory ≡ s.memory

pub record ServesClose (client : ℕ) (s : CallBuffers) (a : Answer) (t : CallBuffers) : Type 0 where
  pub number : ℕ
  pub contract : Closes s.bytes s.memory client number t.bytes t.memory
  pub answer : a ≡ answer_or_refusal number done
  pub ring : t.ring ≡ s.ring

abbrev pub Serves : Call → CallBuffers → Answer → CallBuffers → Type 0
Serves (opens w) = ServesOpen w
Serves (submit client batch) = ServesSubmit client batch
Serves run = ServesRun
Serves (pending client) = ServesPending client
Serves (begin client total) = ServesBegin client total
Serves (piece client bytes) = ServesPiece client bytes
Serves (cancel client) = ServesCancel client
Serves (close client) = ServesClose client

-- ---- a list of calls

pub data ServesAll : List Call → CallBuffers → List Answer → CallBuffers → Type 0 where
  nil : {s : CallBuffers} → ServesAll [] s [] s
  cons : {c : Call} {cs : List Call} {s t u : CallBuffers} {a : Answer} {said : List Answer} → Serves c s a t → ServesAll cs t said u → ServesAll (c ∷ cs) s (a ∷ said) u

-- arguments are 32-bit numbers, as those that the code is handed are
abbrev pub CallFits32Bits : Call → Type 0
CallFits32Bits (opens w) = (w.start < 2 ^ 32) × (w.length < 2 ^ 32)
CallFits32Bits (submit client batch) = client < 2 ^ 32
CallFits32Bits run = Unit {0}
CallFits32Bits (pending client) = Unit {0}
CallFits32Bits (begin client total) = client < 2 ^ 32
CallFits32Bits (piece client bytes) = Unit {0}
CallFits32Bits (cancel client) = Unit {0}
CallFits32Bits (close client) = Unit {0}

abbrev pub CallsFit32Bits : List Call → Type 0
CallsFit32Bits [] = Unit {0}
CallsFit32Bits (c ∷ cs) = CallFits32Bits c × CallsFit32Bits cs

-- ---- the promise: every answer, every byte of memory and every byte of the ring is the reference model's

pub record Served (setup : Setup) (ring memory : List ℕ) (calls : List Call) (said : List Answer) (last : CallBuffers) : Type 0 where
  pub every_answer : said ≡ answers (batch_semantics setup) setup (length ring) calls (initial_model memory)
  pub every_byte : last.memory ≡ (model_after_all (batch_semantics setup) setup (length ring) calls memory).memory
  pub ring_end : last.ring ≡ ring_after_calls setup (length ring) 0 calls (initial_model memory) ring

abbrev pub ServedHolds : Type 0
ServedHolds = (setup : Setup) (before bytes ring memory : List ℕ) (calls : List Call) (said : List Answer) (last : CallBuffers) →
    SetsUp before setup.ring setup.memory setup.common setup.reset 0 bytes →
    CallsFit32Bits calls →
    ServesAll calls (record { bytes = bytes; ring = ring; memory = memory }) said last →
    Served setup ring memory calls said last
