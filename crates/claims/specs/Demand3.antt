-- Demand 3 (01, "The book of demand 3"): what is promised of the engine over any list of calls after set up, refused ones
-- included, from an accepted set up, with any ring and memory at the start. `batch_semantics setup` is reading, judging and drawing by demand 2's
-- definitions, with the reset rule of the set up (ModelProperties). The model is in crates/model/specs. One hypothesis: set up was accepted. proofs/Theorem.antt proves it.
use Rattle.std.specs.Prelude.{◌≡◌, ℕ, ◌/◌, length, take}
use mathlib.Core.List.{List, [], ◌∷◌, Memᴰ}
use Rattle.raster.specs.Task.{draw_tasks}
use Rattle.engine_record.specs.Queue.{waiting}
use Rattle.queue.specs.Refusals.{first_refusal}
use Rattle.engine.specs.Run.{oldest}
use Rattle.model.specs.Windows.{Window}
use Rattle.model.specs.Calls.{Setup, Call, submit, run, piece, CompletionStatus, Answer, opened, accepted, completed, ready, missing, done, refused}
use Rattle.model.specs.State.{Model, initial_model}
use Rattle.model.specs.Model.{answers, model_after_all}
use Rattle.model.specs.Noninterference.{LowEquivalent}
use Rattle.model.specs.Machine.{Machine, RefusalNoOp, BoundedWaiting, Cutting, Isolation, Noninterference}
use Rattle.claims.specs.ModelProperties.{batch_semantics}
use Rattle.claims.specs.Engine.{State, CallResult, perform_call, answers_of, memories_of, state_after, SetUpAccepted, initial_state}
use Rattle.claims.specs.Demand1.{refusal_table_of, standing}

-- The engine as a machine that answers calls, of which the statements of crate model, specs/Machine, speak. Its state is record, ring and memory; a
-- refusal is the first row of the table whose condition holds (01, "Engine, desks, queue").
abbrev pub engine_machine : Machine
engine_machine = record {
  State = State;
  Result = CallResult;
  perform = perform_call;
  answer = λ r. r.answer;
  next = λ r. r.after;
  refusal = λ call s. first_refusal (refusal_table_of call s);
  memory = λ s. s.memory;
  answers = answers_of;
  memories = memories_of;
  after = state_after;
}

-- the completions among the answers, in order: the successful runs
unfoldable pub completed_of : List Answer → List Answer
completed_of [] = []
completed_of (completed c t v ∷ rest) = completed c t v ∷ completed_of rest
completed_of (opened c ∷ rest) = completed_of rest
completed_of (accepted t ∷ rest) = completed_of rest
completed_of (ready n ∷ rest) = completed_of rest
completed_of (missing n ∷ rest) = completed_of rest
completed_of (done ∷ rest) = completed_of rest
completed_of (refused n ∷ rest) = completed_of rest

-- The call hands in a batch of the client: a submit its own, and a piece, as the last one, that of the staged submission (02, 6: "the last piece makes the
-- batch ready").
pub data HandsIn : Call → (client : ℕ) → Type 0 where
  submitted : (client : ℕ) (bytes : List ℕ) → HandsIn (submit client bytes) client
  last-piece : (client : ℕ) (bytes : List ℕ) → HandsIn (piece client bytes) client

module _ (setup : Setup) (ring : List ℕ) where
  module _ (calls : List Call) (memory : List ℕ) where
    -- record, ring and memory after the calls; and the model after them
    abbrev pub final_state : State
    final_state = state_after calls (initial_state setup ring memory)

    abbrev pub final_model : Model
    final_model = model_after_all (batch_semantics setup) setup (length ring) calls memory

    -- a: every answer, and at the end every byte of memory, is the model's
    pub record RefinesModel : Type 0 where
      pub every_answer : answers_of calls (initial_state setup ring memory) ≡ answers (batch_semantics setup) setup (length ring) calls (initial_model memory)
      pub every_byte : final_state.memory ≡ final_model.memory

    -- d, what is promised of a batch that the call makes ready (01, "Engine, desks, queue"): its completion is among the first eight that later calls answer
    pub record Completed (later : List Call) (call : Call) (ticket : ℕ) : Type 0 where
      pub client : ℕ
      pub own : HandsIn call client
      pub status : CompletionStatus
      pub soon : Memᴰ (completed client ticket status) (take 8 (completed_of (answers_of later (perform_call call final_state).after)))

    -- e: a faulty batch leaves memory with the tasks before its fault drawn, as many as the upper half of its status says (02, 5), and the queue without it
    abbrev pub FaultyBatchStands : Type 0
    FaultyBatchStands = (client ticket : ℕ) (v : CompletionStatus) → (perform_call run final_state).answer ≡ completed client ticket v → ¬ (v.fault ≡ 0) →
        ((perform_call run final_state).after.memory ≡ draw_tasks (standing final_state) final_state.memory)
        × (length (standing final_state) ≡ v.status / 65536)
        × (waiting final_state.engine ≡ oldest final_state.engine ∷ waiting (perform_call run final_state).after.engine)

-- The statements of b, c, d and of cutting are those of crate model, specs/Machine, here of the engine; the model's are in ModelProperties.
pub record Demand3 (setup : Setup) (ring : List ℕ) : Type 0 where
  -- a: every answer, and at the end every byte of memory, is the model's
  pub like_model : (calls : List Call) (memory : List ℕ) → RefinesModel setup ring calls memory
  -- b, by tenancies (02, 11: "one stay at a desk, from opening to closing"). Each open client has one tenancy, and its window is that tenancy's. The
  -- window holds what the tenancy's own executed batches, drawn alone and in order, make of memory as its opening found it; there it found "zeros or
  -- starting bytes that no earlier stay owned". "A byte in no window is zero if a closed stay owned it, else as at the start". Common is as at the start.
  pub separate : (calls : List Call) (memory : List ℕ) →
      Isolation (batch_semantics setup) setup (length ring) calls memory engine_machine (initial_state setup ring memory)
  -- c, by tenancies (02, 11): two runs that differ only in one tenancy's batches, in those starting bytes of its window "that no earlier stay owned", and
  -- in what the rings hold. Every answer is the same but for status, fault and offset of that tenancy's own batches; "memory outside that window agrees
  -- throughout", that is after every call; "and all of memory agrees from the stay's closing on", and so does every answer, whatever calls follow. Both
  -- start from the same set up, so they have the same reset rule (02, request 2: "Demand 3 compares runs with the same choice").
  pub noninterference : (client : ℕ) (ring' : List ℕ) (before : List Call) (w : Window) (during during' : List Call) (memory memory' : List ℕ) → length ring ≡ length ring' →
      LowEquivalent (batch_semantics setup) setup (length ring) client before w during during' memory memory' →
      Noninterference engine_machine client before w during during' (initial_state setup ring memory) (initial_state setup ring' memory')
  -- d: a batch that a call makes ready now is among the first eight that later calls complete, once eight of their runs have succeeded
  pub in_time : (calls later : List Call) (memory : List ℕ) →
      BoundedWaiting engine_machine (final_state setup ring calls memory) later (Completed setup ring calls memory later)
  -- 02, 6: "With no other call between, every cutting gives the record, ring and ticket that a whole submit gives." Begin is refused as the submit
  -- is; if it is not, then the last piece answers and leaves just what the submit does. Pieces may be empty, but not the last.
  pub cutting : (calls : List Call) (memory : List ℕ) (client : ℕ) (pieces : List (List ℕ)) (last : List ℕ) →
      Cutting engine_machine client pieces last (final_state setup ring calls memory)
  -- e: a refused call changes nothing (demand 1), and a faulty batch leaves the tasks before its fault drawn
  pub refused_no_change : (call : Call) (s : State) → RefusalNoOp (perform_call call s).answer s (perform_call call s).after
  pub stands : (calls : List Call) (memory : List ℕ) → FaultyBatchStands setup ring calls memory

-- The promise.
abbrev pub Demand3Holds : Type 0
Demand3Holds = (setup : Setup) (ring : List ℕ) → SetUpAccepted setup → Demand3 setup ring
