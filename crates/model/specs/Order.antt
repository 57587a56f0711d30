-- The order between clients (02, 9: "Order between desks"), and what openings and closings hold fast of it (02, 11: "The orders of request 9 move
-- no batch past an opening or a closing").
use Rattle.std.specs.Prelude.{◌≡◌, List, [], ◌∷◌, ◌++◌, map, Bool, true, false, cond, ◌⊎◌, ℕ, length, drop, eqb}
use Rattle.model.specs.Windows.{Window}
use Rattle.model.specs.Calls.{Setup, Call, opens, submit, run, pending, begin, piece, cancel, close, CompletionStatus, Answer, opened, accepted, completed, ready, missing, done, refused}
use Rattle.model.specs.BatchSemantics.{BatchSemantics}
use Rattle.model.specs.State.{Batch, Model}
use Rattle.model.specs.Model.{step, answers, after}
use Rattle.model.specs.Tenancy.{batches_of}

-- ---- what is ordered

-- A client is opened or closed, or a batch is handed in or executed. A batch stands here without its ticket (02, 9: "Tickets follow the order of
-- submission and are excepted").
pub data Event : Type 0 where
  opening : Window → Event
  closing : (client : ℕ) → Event
  job : (client : ℕ) (bytes : List ℕ) → Event

-- These batches as events.
unfoldable pub jobs : List Batch → List Event
jobs [] = []
jobs (b ∷ bs) = job b.client b.bytes ∷ jobs bs

-- What one client sees of them: every opening and closing, and its own batches.
unfoldable pub seen_by : ℕ → List Event → List Event
seen_by client [] = []
seen_by client (opening w ∷ es) = opening w ∷ seen_by client es
seen_by client (closing k ∷ es) = closing k ∷ seen_by client es
seen_by client (job k bytes ∷ es) = cond (eqb k client) (job k bytes ∷ seen_by client es) (seen_by client es)

-- 02, 9: an "order that keeps each desk's own sequence": the same openings and closings in the same order, between them the same batches of each
-- client in that client's order, and batches of different clients in any.
abbrev pub Reordered : List Event → List Event → Type 0
Reordered es es' = (client : ℕ) → seen_by client es ≡ seen_by client es'

-- The same of a queue, in which no client comes or goes: of each client the same batches in the same order, but for their tickets.
abbrev pub SameSequences : List Batch → List Batch → Type 0
SameSequences bs bs' = (client : ℕ) → batches_of client bs ≡ batches_of client bs'

-- ---- the events of a list of calls

abbrev pub is_refused : Answer → Bool
is_refused (opened k) = false
is_refused (accepted t) = false
is_refused (completed k t v) = false
is_refused (ready n) = false
is_refused (missing n) = false
is_refused done = false
is_refused (refused n) = true

-- The opening or closing that a call is, if it is one and accepted.
unfoldable pub changes : Call → Answer → List Event
changes (opens w) a = cond (is_refused a) [] (opening w ∷ [])
changes (submit k bytes) a = []
changes run a = []
changes (pending k) a = []
changes (begin k total) a = []
changes (piece k bytes) a = []
changes (cancel k) a = []
changes (close k) a = cond (is_refused a) [] (closing k ∷ [])

-- 02, 9: "the same status, fault and place": the verdicts of a client's completions, in order.
unfoldable pub verdicts_of : ℕ → List Answer → List CompletionStatus
verdicts_of client [] = []
verdicts_of client (completed k t v ∷ rest) = cond (eqb k client) (v ∷ verdicts_of client rest) (verdicts_of client rest)
verdicts_of client (opened k ∷ rest) = verdicts_of client rest
verdicts_of client (accepted t ∷ rest) = verdicts_of client rest
verdicts_of client (ready n ∷ rest) = verdicts_of client rest
verdicts_of client (missing n ∷ rest) = verdicts_of client rest
verdicts_of client (done ∷ rest) = verdicts_of client rest
verdicts_of client (refused n ∷ rest) = verdicts_of client rest

-- The model with another queue: "Night staff reorder the queue by hand" (02, 9).
abbrev pub with_waiting : Model → List Batch → Model
with_waiting model waiting =
    record { places = model.places; waiting = waiting; staged = model.staged; accepted = model.accepted; memory = model.memory }

-- One run for each batch.
abbrev pub run_each : List Batch → List Call
run_each batches = map (λ b. run) batches

-- Ring and memory are lent as they were set up: no run is refused with 10.
abbrev pub Lent : Setup → (ring : ℕ) → Model → Type 0
Lent setup ring model = (ring ≡ setup.ring) × (length model.memory ≡ setup.memory)

module _ (way : BatchSemantics) (setup : Setup) (ring : ℕ) where
  -- Openings, closings and executed batches, in order.
  unfoldable pub executions : List Call → Model → List Event
  executions [] model = []
  executions (c ∷ cs) model =
      changes c (step way setup ring c model).answer ++ (jobs (step way setup ring c model).executed ++ executions cs (step way setup ring c model).after)

  -- Openings, closings and accepted batches, in order. A batch is accepted by its submit or by its last piece, which put it behind those that
  -- wait; one that is refused or cancelled is none.
  unfoldable pub submissions : List Call → Model → List Event
  submissions [] model = []
  submissions (c ∷ cs) model =
      changes c (step way setup ring c model).answer
      ++ (jobs (drop (length model.waiting) (step way setup ring c model).after.waiting) ++ submissions cs (step way setup ring c model).after)

  -- 02, 9: "every batch is .. run": none waits at an opening or a closing, nor at the end.
  abbrev pub AllRun : List Call → Model → Type 0
  AllRun [] model = model.waiting ≡ []
  AllRun (c ∷ cs) model = ((changes c (step way setup ring c model).answer ≡ []) ⊎ (model.waiting ≡ [])) × AllRun cs (step way setup ring c model).after

  -- ---- what is claimed

  -- Both lists end in the same memory, and each client's first batch that is executed gets the same status, fault and offset in both, and so its
  -- second, and so on.
  pub record SameOutcome (calls calls' : List Call) (model model' : Model) : Type 0 where
    pub memory : (after way setup ring calls model).memory ≡ (after way setup ring calls' model').memory
    pub verdicts : (client : ℕ) → verdicts_of client (answers way setup ring calls model) ≡ verdicts_of client (answers way setup ring calls' model')

  -- The other order of the first two that wait: the same status, fault and offset for each, and the same model after both, memory too.
  pub record Exchanged (a b : Batch) (first second : CompletionStatus) (rest : List Batch) (model : Model) : Type 0 where
    pub same_answers : answers way setup ring (run ∷ run ∷ []) (with_waiting model (b ∷ a ∷ rest)) ≡
        completed b.client b.ticket second ∷ completed a.client a.ticket first ∷ []
    pub left : after way setup ring (run ∷ run ∷ []) (with_waiting model (b ∷ a ∷ rest)) ≡ after way setup ring (run ∷ run ∷ []) model

  -- The queue as it waits, and another in its place with each client's batches in the same order: both are run to the end.
  pub record ByHand (model : Model) (other : List Batch) : Type 0 where
    pub outcome : SameOutcome (run_each model.waiting) (run_each other) model (with_waiting model other)
    pub finished : Lent setup ring model →
        ((after way setup ring (run_each model.waiting) model).waiting ≡ []) × ((after way setup ring (run_each other) (with_waiting model other)).waiting ≡ [])
