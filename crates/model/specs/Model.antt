-- The reference model's calls, one at a time and in a list. What is quoted is of 01, "The book of demand 3", if no other place is named.
use Rattle.std.specs.Prelude.{List, [], ◌∷◌, ◌++◌, cond, ℕ, zero, suc, ◌-◌, ◌%◌, length, set, eqb}
use Rattle.model.specs.Windows.{Window, zeroed}
use Rattle.model.specs.Calls.{Setup, Call, opens, submit, run, pending, begin, piece, cancel, close, Answer, opened, accepted, completed, ready, missing, done, refused}
use Rattle.model.specs.BatchSemantics.{BatchSemantics}
use Rattle.model.specs.State.{Batch, batch, Place, free, taken, Staging, idle, staging, Model, initial_model, window_of, next_client, count_of}
use Rattle.model.specs.Refusals.{refusal}

-- What one call answers, the model after it, the batch that it executed, if any ("that batch is executed"), and the window that it closed.
pub record Step : Type 0 where
  pub answer : Answer
  pub after : Model
  pub executed : List Batch
  pub closed : List Window

-- Nothing is executed or closed.
abbrev pub plain : Answer → Model → Step
plain answer model = record { answer = answer; after = model; executed = []; closed = [] }

-- "It refuses by the table and then changes nothing."
abbrev pub refuse : ℕ → Model → Step
refuse number model = plain (refused number) model

-- The model with other places.
abbrev pub with_places : Model → List Place → Model
with_places model places =
    record { places = places; waiting = model.waiting; staged = model.staged; accepted = model.accepted; memory = model.memory }

-- The model with another staged submission, or none.
abbrev pub with_staged : Model → Staging → Model
with_staged model staged =
    record { places = model.places; waiting = model.waiting; staged = staged; accepted = model.accepted; memory = model.memory }

-- "Open adds the window"; 02, 11: "open takes the lowest free id".
abbrev pub open_step : Model → Window → Step
open_step model w = plain (opened (next_client model)) (with_places model (set model.places (next_client model) (taken w)))

-- "Submit puts the batch last; its ticket is the number accepted before it, modulo 4,294,967,296." 02, 6: "the last piece puts it last among the
-- waiting as submit does". No submission is staged then: a submit with one is refused (13), and the last piece ends it.
abbrev pub enqueue : Model → ℕ → List ℕ → Step
enqueue model client bytes =
    let ticket : ℕ = model.accepted % 4294967296 in
    plain (accepted ticket) (record {
      places = model.places;
      waiting = model.waiting ++ (batch client ticket bytes ∷ []);
      staged = idle;
      accepted = suc model.accepted;
      memory = model.memory;
    })

-- "Run takes the first waiting batch, judges and draws it in memory with its desk's window". Its answer is that of
-- 01, "Engine, desks, queue": client, ticket, status, fault and offset. With no batch the table has refused it already.
abbrev pub run_step : BatchSemantics → ℕ → Model → List Batch → Step
run_step way common model [] = refuse 9 model
run_step way common model (b ∷ rest) = record {
  answer = completed b.client b.ticket (way.verdict (window_of model b.client) common b.bytes);
  after = record {
    places = model.places;
    waiting = rest;
    staged = model.staged;
    accepted = model.accepted;
    memory = way.draw (window_of model b.client) common b.bytes model.memory;
  };
  executed = b ∷ [];
  closed = [];
}

-- "Pending counts the desk's waiting batches."
abbrev pub pending_step : Model → ℕ → Step
pending_step model client = plain (ready (count_of client model.waiting)) model

-- 02, 6: "begin a batch with its total length"; no byte has come yet.
abbrev pub begin_step : Model → ℕ → ℕ → Step
begin_step model client total = plain done (with_staged model (staging client total []))

-- 02, 6: "A piece answers the bytes still to come, the last its ticket." With none open the table has refused it already.
abbrev pub piece_step : Model → Staging → List ℕ → Step
piece_step model idle bytes = refuse 14 model
piece_step model (staging client total before) bytes =
    let all : List ℕ = before ++ bytes in
    cond (eqb (length all) total) (enqueue model client all) (plain (missing (total - length all)) (with_staged model (staging client total all)))

-- 02, 6: "cancelling drops it".
abbrev pub cancel_step : Model → Step
cancel_step model = plain done (with_staged model idle)

-- 02, 11: "the book fills the window with zeros and drops it".
abbrev pub close_step : Model → ℕ → Step
close_step model client = record {
  answer = done;
  after = record {
    places = set model.places client free;
    waiting = model.waiting;
    staged = model.staged;
    accepted = model.accepted;
    memory = zeroed (window_of model client) model.memory;
  };
  executed = [];
  closed = window_of model client ∷ [];
}

-- A refusal number, 0 for none: the refusal, or else the step.
unfoldable pub refuse_or : ℕ → Model → Step → Step
refuse_or zero model otherwise = otherwise
refuse_or (suc n) model otherwise = refuse (suc n) model

-- ring: the length of the lent ring. The lent memory is the model's; its length may differ from the set-up number.
module _ (way : BatchSemantics) (setup : Setup) (ring : ℕ) where
  -- A call that is not refused.
  unfoldable pub effect : Call → Model → Step
  effect (opens w) model = open_step model w
  effect (submit client bytes) model = enqueue model client bytes
  effect run model = run_step way setup.common model model.waiting
  effect (pending client) model = pending_step model client
  effect (begin client total) model = begin_step model client total
  effect (piece client bytes) model = piece_step model model.staged bytes
  effect (cancel client) model = cancel_step model
  effect (close client) model = close_step model client

  -- One call: by the table, or else its effect.
  abbrev pub step : Call → Model → Step
  step call model = refuse_or (refusal setup ring model call) model (effect call model)

  -- ---- a list of calls: each finds the model as the last one left it (the claim is "of the list as a whole")

  -- Every answer, in order.
  unfoldable pub answers : List Call → Model → List Answer
  answers [] model = []
  answers (c ∷ cs) model = (step c model).answer ∷ answers cs (step c model).after

  -- The memory after each call, in order.
  unfoldable pub memories : List Call → Model → List (List ℕ)
  memories [] model = []
  memories (c ∷ cs) model = (step c model).after.memory ∷ memories cs (step c model).after

  -- The model after them.
  unfoldable pub after : List Call → Model → Model
  after [] model = model
  after (c ∷ cs) model = after cs (step c model).after

  -- The executed batches, in the order taken.
  unfoldable pub executed : List Call → Model → List Batch
  executed [] model = []
  executed (c ∷ cs) model = (step c model).executed ++ executed cs (step c model).after

  -- The windows that were closed.
  unfoldable pub closed : List Call → Model → List Window
  closed [] model = []
  closed (c ∷ cs) model = (step c model).closed ++ closed cs (step c model).after

  -- The model at the end of a list of calls on the lent memory.
  abbrev pub model_after_all : List Call → List ℕ → Model
  model_after_all calls memory = after calls (initial_model memory)
