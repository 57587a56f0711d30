-- Order between clients (02, 9: "Order between desks"), whole: of the model at the real definitions of reading, judging and drawing, and of the engine
-- itself. The words are those of crate model, specs/Order (`Reordered`, `executions`, `submissions`, `AllRun`, `verdicts_of`) and specs/Properties (the statements of the model).
-- proofs/Order.antt proves `OrderHolds`. One hypothesis: set up was accepted.
use Rattle.std.specs.Prelude.{◌≡◌, List, ℕ, length}
use Rattle.model.specs.Calls.{Setup, Call}
use Rattle.model.specs.State.{initial_model}
use Rattle.model.specs.Order.{Reordered, executions, submissions, AllRun, verdicts_of}
use Rattle.model.specs.Properties.{Exchange, AnyOrder, AnySubmissions, ReorderedByHand}
use Rattle.claims.specs.ModelProperties.{batch_semantics}
use Rattle.claims.specs.Engine.{answers_of, state_after, SetUpAccepted, initial_state}

-- Two lists of calls that the engine is given, from the same record, ring and memory. What they open, accept and execute, and what waits, is given by
-- the model, whose answers are the engine's (Demand3, a).
module _ (setup : Setup) (ring : List ℕ) (calls calls' : List Call) (memory : List ℕ) where
  -- All of memory is the same at the end. Each client's first batch that is executed gets the same status, fault and offset (02: place) in both, and so
  -- its second, and so on. "Tickets follow the order of submission and are excepted."
  pub record SameOutcome : Type 0 where
    pub every_byte : (state_after calls (initial_state setup ring memory)).memory ≡ (state_after calls' (initial_state setup ring memory)).memory
    pub verdicts : (client : ℕ) → verdicts_of client (answers_of calls (initial_state setup ring memory)) ≡ verdicts_of client (answers_of calls' (initial_state setup ring memory))

  -- "any order that keeps each desk's own sequence", of executed batches; no batch moves "past an opening or a closing" (02, 11)
  abbrev pub EngineOrder : Type 0
  EngineOrder =
      Reordered (executions (batch_semantics setup) setup (length ring) calls (initial_model memory)) (executions (batch_semantics setup) setup (length ring) calls' (initial_model memory)) → SameOutcome

  -- and of accepted batches, "where every batch is accepted and run in both": none waits at an opening, at a closing or at the end
  abbrev pub EngineSubmissions : Type 0
  EngineSubmissions = AllRun (batch_semantics setup) setup (length ring) calls (initial_model memory) → AllRun (batch_semantics setup) setup (length ring) calls' (initial_model memory) →
      Reordered (submissions (batch_semantics setup) setup (length ring) calls (initial_model memory)) (submissions (batch_semantics setup) setup (length ring) calls' (initial_model memory)) → SameOutcome

pub record Order (setup : Setup) (ring : List ℕ) : Type 0 where
  -- "two faultless or faulty batches of different desks, taken one right after the other", at any moment: "either order leaves the same memory and gives
  -- each batch the same status, fault and place"
  pub exchange : (calls : List Call) (memory : List ℕ) → Exchange (batch_semantics setup) setup (length ring) calls memory
  -- "whole queues": any order of what is executed, and of what is handed in where all of it is run
  pub any_order : (calls calls' : List Call) (memory : List ℕ) → AnyOrder (batch_semantics setup) setup (length ring) calls calls' memory
  pub any_submissions : (calls calls' : List Call) (memory : List ℕ) → AnySubmissions (batch_semantics setup) setup (length ring) calls calls' memory
  -- "Night staff reorder the queue by hand", at any moment, and it is run to the end
  pub by_hand : (calls : List Call) (memory : List ℕ) → ReorderedByHand (batch_semantics setup) setup (length ring) calls memory
  -- whole queues, of the engine. No call changes places in its queue, so the other two are of the model alone.
  pub engine_order : (calls calls' : List Call) (memory : List ℕ) → EngineOrder setup ring calls calls' memory
  pub engine_submissions : (calls calls' : List Call) (memory : List ℕ) → EngineSubmissions setup ring calls calls' memory

-- The promise.
abbrev pub OrderHolds : Type 0
OrderHolds = (setup : Setup) (ring : List ℕ) → SetUpAccepted setup → Order setup ring
