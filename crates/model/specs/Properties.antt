-- What is claimed of the model (01, "The book of demand 3": "of the list as a whole"; 02, 6 and 11), for any way to draw, any set up, any lent
-- ring length, any starting memory and any list of calls, refused ones included. proofs/Theorems.antt proves `ModelProperties`.
use Rattle.std.specs.Prelude.{◌≡◌, true, false, Bool, ◌&&◌, ◌||◌, ℕ, suc, ◌%◌, ◌≤◌, ◌<◌, length, take, leb, eqb}
use mathlib.Core.List.{List, [], ◌∷◌, ◌++◌, Memᴰ}
use Rattle.model.specs.Windows.{Window}
use Rattle.model.specs.Calls.{Setup, Call, opens, submit, run, piece, CompletionStatus, opened, completed, refused}
use Rattle.model.specs.BatchSemantics.{BatchSemantics, Confined}
use Rattle.model.specs.State.{Batch, batch, Staging, idle, staging, Model, initial_model, is_open, taken_slots, taken_bytes}
use Rattle.model.specs.Refusals.{bad_length}
use Rattle.model.specs.Model.{Step, step, answers, executed, model_after_all}
use Rattle.model.specs.Order.{SameSequences, Reordered, executions, submissions, AllRun, SameOutcome, Exchanged, ByHand}
use Rattle.model.specs.Noninterference.{LowEquivalent}
use Rattle.model.specs.Machine.{model_machine, RefusalNoOp, BoundedWaiting, Cutting, Isolation, Noninterference}

-- The batches' tickets are n, n + 1, .., modulo 4,294,967,296 (01, "Engine, desks, queue": "Accepted batches get tickets 0, 1, 2, ..").
abbrev pub ConsecutiveTickets : ℕ → List Batch → Type 0
ConsecutiveTickets n [] = Unit {0}
ConsecutiveTickets n (b ∷ bs) = (b.ticket ≡ n % 4294967296) × ConsecutiveTickets (suc n) bs

-- The unfinished batch, if there is one, is "of an open desk", "its length allowed by 6", "its bytes so far fewer than that length" (02, 6: what
-- the record rules gain).
abbrev pub Proper : Setup → (open? : ℕ → Bool) → Staging → Type 0
Proper setup open? idle = Unit {0}
Proper setup open? (staging client total bytes) = (open? client ≡ true) × (bad_length setup total ≡ false) × (length bytes < total)

-- The numbers that refuse a call after set up (01, "Engine, desks, queue", the table; 02, 6 and 11): 1 and 2 are set up's, 11 never comes.
abbrev pub refuses : ℕ → Bool
refuses n = leb 3 n && leb n 10 || eqb n 13 || eqb n 14 || eqb n 18

-- The batch is what the submit hands in (01, "The book of demand 3"), or what the staged bytes and this piece make (02, 6).
pub data HandedIn (model : Model) : Call → Batch → Type 0 where
  whole : (client ticket : ℕ) (bytes : List ℕ) → HandedIn model (submit client bytes) (batch client ticket bytes)
  pieces : (client ticket total : ℕ) (before bytes : List ℕ) → model.staged ≡ staging client total before →
      HandedIn model (piece client bytes) (batch client ticket (before ++ bytes))

-- A refused call executes and closes nothing (01, "The book of demand 3": "It refuses by the table and then changes nothing"), and its number is one of these. That it leaves the whole model as it was is `RefusalNoOp`.
pub record Quiet (number : ℕ) (s : Step) : Type 0 where
  pub executed : s.executed ≡ []
  pub closed : s.closed ≡ []
  pub listed : refuses number ≡ true

-- ring: the length of the lent ring; memory: the lent memory at the start.
module _ (way : BatchSemantics) (setup : Setup) (ring : ℕ) where
  module _ (calls : List Call) (memory : List ℕ) where
    -- Short for the model after the calls, and for what they executed.
    abbrev pub final_model : Model
    final_model = model_after_all way setup ring calls memory

    abbrev pub executed_batches : List Batch
    executed_batches = executed way setup ring calls (initial_model memory)

    -- No batch outlives its tenancy: every waiting one is of an open client (01, record rules: "each of an open desk"), and so is the staged one.
    pub record Tenanted : Type 0 where
      pub waiting : (b : Batch) → Memᴰ b final_model.waiting → is_open final_model b.client ≡ true
      pub staged : Proper setup (is_open final_model) final_model.staged

    -- What was executed and then what waits is all that was ever accepted, in the order of the tickets (01, "The book of demand 3"). At most eight slots are taken, the staged
    -- submission's among them, in the ring's room.
    pub record FifoOrder : Type 0 where
      pub all : length (executed_batches ++ final_model.waiting) ≡ final_model.accepted
      pub tickets : ConsecutiveTickets 0 (executed_batches ++ final_model.waiting)
      pub slots : taken_slots final_model ≤ 8
      pub room : taken_bytes final_model ≤ setup.ring

    -- A batch that is made ready now, by a submit or by the last piece, is put last among the waiting, and it is among the first eight that later
    -- calls execute, once eight of their runs have succeeded (01, "Engine, desks, queue": "taken at the latest by the eighth successful run
    -- after it"). `List.Memᴰ x xs`: x stands in the list.
    pub record Executed (later : List Call) (call : Call) (ticket : ℕ) : Type 0 where
      pub batch : Batch
      pub own : HandedIn final_model call batch
      pub numbered : batch.ticket ≡ ticket
      pub last : (step way setup ring call final_model).after.waiting ≡ final_model.waiting ++ (batch ∷ [])
      pub soon : Memᴰ batch (take 8 (executed way setup ring later (step way setup ring call final_model).after))

    -- 02, 9: "two faultless or faulty batches of different desks, taken one right after the other": the next two runs execute a and b.
    abbrev pub Exchange : Type 0
    Exchange = (a b : Batch) (first second : CompletionStatus) (rest : List Batch) → final_model.waiting ≡ a ∷ b ∷ rest → ¬ (a.client ≡ b.client) →
        answers way setup ring (run ∷ run ∷ []) final_model ≡ completed a.client a.ticket first ∷ completed b.client b.ticket second ∷ [] →
        Exchanged way setup ring a b first second rest final_model

    -- 02, 9: "Night staff reorder the queue by hand", at any moment, each client's batches in their order.
    abbrev pub ReorderedByHand : Type 0
    ReorderedByHand = (other : List Batch) → SameSequences other final_model.waiting → ByHand way setup ring final_model other

    -- 02, 11: "opening takes the lowest free id". Ids are 0 to 3 (01, "Engine, desks, queue").
    abbrev pub Lowest : Type 0
    Lowest = (client : ℕ) (w : Window) → (step way setup ring (opens w) final_model).answer ≡ opened client →
        (is_open final_model client ≡ false) × ((k : ℕ) → k < client → is_open final_model k ≡ true) × (client < 4)

  module _ (calls calls' : List Call) (memory : List ℕ) where
    -- 02, 9, whole queues: "any order that keeps each desk's own sequence ends in the same memory". Between two openings or closings the same
    -- batches are executed, each client's in its order; how submits, pieces, runs and other calls are mixed is not asked.
    abbrev pub AnyOrder : Type 0
    AnyOrder = Reordered (executions way setup ring calls (initial_model memory)) (executions way setup ring calls' (initial_model memory)) →
        SameOutcome way setup ring calls calls' (initial_model memory) (initial_model memory)

    -- The same from what is handed in, "where every batch is accepted and run in both".
    abbrev pub AnySubmissions : Type 0
    AnySubmissions = AllRun way setup ring calls (initial_model memory) → AllRun way setup ring calls' (initial_model memory) →
        Reordered (submissions way setup ring calls (initial_model memory)) (submissions way setup ring calls' (initial_model memory)) →
        SameOutcome way setup ring calls calls' (initial_model memory) (initial_model memory)

  -- 01, "Engine, desks, queue": "A refusal gives only its number".
  abbrev pub QuietRefusal : Call → Model → Type 0
  QuietRefusal call model = (number : ℕ) → (step way setup ring call model).answer ≡ refused number → Quiet number (step way setup ring call model)

-- The claims. The first six ask that a batch is drawn by its window and common alone; the others ask nothing.
pub record ModelProperties (way : BatchSemantics) (setup : Setup) (ring : ℕ) : Type 0 where
  pub separate : Confined way → (calls : List Call) (memory : List ℕ) →
      Isolation way setup ring calls memory (model_machine way setup ring) (initial_model memory)
  pub noninterference : Confined way → (client : ℕ) (before : List Call) (w : Window) (during during' : List Call) (memory memory' : List ℕ) →
      LowEquivalent way setup ring client before w during during' memory memory' →
      Noninterference (model_machine way setup ring) client before w during during' (initial_model memory) (initial_model memory')
  pub exchange : Confined way → (calls : List Call) (memory : List ℕ) → Exchange way setup ring calls memory
  pub any_order : Confined way → (calls calls' : List Call) (memory : List ℕ) → AnyOrder way setup ring calls calls' memory
  pub any_submissions : Confined way → (calls calls' : List Call) (memory : List ℕ) → AnySubmissions way setup ring calls calls' memory
  pub by_hand : Confined way → (calls : List Call) (memory : List ℕ) → ReorderedByHand way setup ring calls memory
  pub lowest : (calls : List Call) (memory : List ℕ) → Lowest way setup ring calls memory
  pub tenanted : (calls : List Call) (memory : List ℕ) → Tenanted way setup ring calls memory
  pub in_order : (calls : List Call) (memory : List ℕ) → FifoOrder way setup ring calls memory
  pub in_time : (calls later : List Call) (memory : List ℕ) →
      BoundedWaiting (model_machine way setup ring) (model_after_all way setup ring calls memory) later (Executed way setup ring calls memory later)
  pub refused_no_change : (call : Call) (model : Model) → RefusalNoOp (step way setup ring call model).answer model (step way setup ring call model).after
  pub quiet : (call : Call) (model : Model) → QuietRefusal way setup ring call model
  pub cutting : (client : ℕ) (pieces : List (List ℕ)) (last : List ℕ) (model : Model) →
      Cutting (model_machine way setup ring) client pieces last model
