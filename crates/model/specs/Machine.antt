-- What is claimed of the reference model and of the engine alike, stated once over any machine that answers calls. specs/Properties claims it of the
-- model, crate claims (specs/Demand1, specs/Demand3) of the engine.
use Rattle.std.specs.Prelude.{◌≡◌, true, ℕ, ◌≤◌, ◌<◌, length}
use mathlib.Core.List.{List, [], ◌∷◌, ◌++◌, map, flatten}
use Rattle.model.specs.Windows.{Window, In, byte}
use Rattle.model.specs.Calls.{Setup, Call, opens, submit, begin, piece, close, Answer, accepted, done, refused, completions}
use Rattle.model.specs.BatchSemantics.{BatchSemantics}
use Rattle.model.specs.State.{Model, initial_model, is_open, window_of, Owns}
use Rattle.model.specs.Refusals.{refusal}
use Rattle.model.specs.Model.{Step, step, answers, memories, after, closed, model_after_all}
use Rattle.model.specs.Tenancy.{left_over, Current, replayed_alone}
use Rattle.model.specs.Noninterference.{Pointwise, LowEqualAnswer, AgreeOutside}

-- 01, "Engine, desks, queue": "A refusal gives only its number and changes nothing." What a call answered, the state that it found and the one that it left.
abbrev pub RefusalNoOp : {S : Type 0} → Answer → (found left : S) → Type 0
RefusalNoOp answer found left = (number : ℕ) → answer ≡ refused number → left ≡ found

-- A machine that answers calls (01, "Engine, desks, queue"); the field calls a state machine with answers a Mealy machine.
pub record Machine : Type 1 where
  -- what it keeps from one call to the next, and what one call comes to
  pub State : Type 0
  pub Result : Type 0
  pub perform : Call → State → Result
  -- what the call answered, and the state after it
  pub answer : Result → Answer
  pub next : Result → State
  -- the number that the table refuses the call with, 0 for none
  pub refusal : Call → State → ℕ
  -- the memory that is lent
  pub memory : State → List ℕ
  -- over a list of calls, each of which finds the state as the call before it left it: every answer, memory after each call, and the state at the end.
  -- That they go by `perform` is not asked here: of the model it is so by their definitions in Model, of the engine by those of crate claims, specs/Engine
  pub answers : List Call → State → List Answer
  pub memories : List Call → State → List (List ℕ)
  pub after : List Call → State → State

-- The reference model is one (01, "The book of demand 3"). ring: the length of the lent ring.
abbrev pub model_machine : BatchSemantics → Setup → (ring : ℕ) → Machine
model_machine way setup ring = record {
  State = Model;
  Result = Step;
  perform = step way setup ring;
  answer = λ s. s.answer;
  next = λ s. s.after;
  refusal = λ call model. refusal setup ring model call;
  memory = λ model. model.memory;
  answers = answers way setup ring;
  memories = memories way setup ring;
  after = after way setup ring;
}

module _ (machine : Machine) where
  -- Bounded waiting (01, "Engine, desks, queue": "taken at the latest by the eighth successful run after it"). Whatever call makes a batch ready in the
  -- state s, and is given its ticket: once eight runs of the later calls have succeeded, the batch is taken.
  abbrev pub BoundedWaiting : (s : machine.State) (later : List Call) (Taken : Call → (ticket : ℕ) → Type 0) → Type 0
  BoundedWaiting s later Taken = (call : Call) (ticket : ℕ) → machine.answer (machine.perform call s) ≡ accepted ticket →
      8 ≤ completions (machine.answers later (machine.next (machine.perform call s))) → Taken call ticket

  -- 02, 6: "With no other call between, every cutting gives the record, ring and ticket that a whole submit gives." Begin is refused as the
  -- submit is; if it is not, then the last piece comes to just what the submit comes to, in its answer and in all that it leaves. Pieces may be empty,
  -- but not the last.
  pub record Cutting (client : ℕ) (pieces : List (List ℕ)) (last : List ℕ) (s : machine.State) : Type 0 where
    pub checks : machine.refusal (begin client (length (flatten pieces ++ last))) s ≡ machine.refusal (submit client (flatten pieces ++ last)) s
    pub whole : 0 < length last → machine.refusal (submit client (flatten pieces ++ last)) s ≡ 0 →
        machine.perform (piece client last) (machine.after (begin client (length (flatten pieces ++ last)) ∷ map (piece client) pieces) s)
        ≡ machine.perform (submit client (flatten pieces ++ last)) s

  module _ (before : List Call) (w : Window) (start : machine.State) where
    -- The state as the opening after `before` leaves it: the start of a tenancy (02, 11).
    abbrev pub entered_state : machine.State
    entered_state = machine.next (machine.perform (opens w) (machine.after before start))

    -- And as the calls `during` leave that (02, 11: up to the stay's closing).
    abbrev pub left_state : (during : List Call) → machine.State
    left_state during = machine.after during entered_state

  -- Demand 3, second half (02, 11), of two runs that differ in one tenancy (`LowEquivalent`). Every answer is the same but for status, fault and offset
  -- of that tenancy's own batches; "memory outside that window agrees throughout", that is after every call; "and all of memory agrees from the
  -- stay's closing on", and so does every answer, whatever calls follow.
  pub record Noninterference (client : ℕ) (before : List Call) (w : Window) (during during' : List Call) (start start' : machine.State) : Type 0 where
    pub answers_before : machine.answers (before ++ opens w ∷ []) start ≡ machine.answers (before ++ opens w ∷ []) start'
    pub answers_during : Pointwise (LowEqualAnswer client) (machine.answers during (entered_state before w start)) (machine.answers during' (entered_state before w start'))
    pub throughout : Pointwise (AgreeOutside w) (machine.memories (before ++ opens w ∷ during) start) (machine.memories (before ++ opens w ∷ during') start')
    pub from_closing : (later : List Call) → machine.answer (machine.perform (close client) (left_state before w start during)) ≡ done →
        (machine.answers (close client ∷ later) (left_state before w start during) ≡ machine.answers (close client ∷ later) (left_state before w start' during'))
        × (machine.memories (close client ∷ later) (left_state before w start during) ≡ machine.memories (close client ∷ later) (left_state before w start' during'))

-- way, setup and ring: how batches are judged and drawn, the set up, and the length of the lent ring; memory: the lent memory at the start.
module _ (way : BatchSemantics) (setup : Setup) (ring : ℕ) (calls : List Call) (memory : List ℕ) where
  -- Short for the model after the calls (01, "The book of demand 3").
  abbrev pub final_model : Model
  final_model = model_after_all way setup ring calls memory

  -- Short for a client's tenancy at the end (02, 11).
  abbrev pub CurrentTenancy : (client : ℕ) → Type 0
  CurrentTenancy client = Current way setup ring (initial_model memory) calls client

  -- Short for the windows that calls from the start on closed (02, 11).
  abbrev pub closed_before : List Call → List Window
  closed_before before = closed way setup ring before (initial_model memory)

  -- Demand 3, first half, by tenancies (02, 11: "one stay at a desk, from opening to closing"). Each open client has one tenancy, and its window is
  -- that tenancy's. The window holds what the tenancy's own executed batches, drawn alone and in order, make of memory as its opening found it; there
  -- it found "zeros or starting bytes that no earlier stay owned". "A byte in no window is zero if a closed stay owned it, else as at the start".
  -- The common area is as at the start; memory keeps its length. Who is open, by which tenancy, and what was closed is as the model says.
  pub record Isolation (machine : Machine) (start : machine.State) : Type 0 where
    pub resides : (client : ℕ) → is_open final_model client ≡ true → CurrentTenancy client
    pub only : (client : ℕ) (t u : CurrentTenancy client) → (t.before ≡ u.before) × (t.window ≡ u.window) × (t.during ≡ u.during)
    pub holds : (client : ℕ) (t : CurrentTenancy client) → (is_open final_model client ≡ true) × (window_of final_model client ≡ t.window)
    pub window : (client : ℕ) (t : CurrentTenancy client) (i : ℕ) → In t.window i →
        byte (machine.memory (machine.after calls start)) i ≡ byte (replayed_alone way setup ring (initial_model memory) t.before t.window t.during client) i
    pub found : (client : ℕ) (t : CurrentTenancy client) (i : ℕ) → In t.window i →
        byte (machine.memory (machine.after t.before start)) i ≡ left_over (closed_before t.before) memory i
    pub no_window : (i : ℕ) → ((client : ℕ) → ¬ (Owns final_model client i)) →
        byte (machine.memory (machine.after calls start)) i ≡ left_over (closed_before calls) memory i
    pub common : (i : ℕ) → i < setup.common → byte (machine.memory (machine.after calls start)) i ≡ byte memory i
    pub size : length (machine.memory (machine.after calls start)) ≡ length memory
