-- The queue (01, "Engine, desks, queue"; 02, 6), of the engine after any list of calls from an accepted set up: where a batch is put, whole or by
-- pieces, which one run takes, and that the others wait on with their bytes. proofs/Queue.antt proves `QueueHolds`, and
-- proofs/ClosedPlaces.antt `ClosedPlacesFree`.
use Rattle.std.specs.Prelude.{◌≡◌, true, false, List, [], ◌∷◌, ◌++◌, ◌⊎◌, ℕ, ◌+◌, ◌-◌, ◌≤◌, ◌<◌, length}
use Rattle.word.specs.Word.{words}
use Rattle.ring.specs.Segment.{segment, wrap_offset}
use Rattle.engine_record.specs.declared.Batch.{Batch}
use Rattle.engine_record.specs.declared.Client.{Client}
use Rattle.engine_record.specs.declared.EngineRecord.{EngineRecord}
use Rattle.engine_record.specs.Slots.{total_length}
use Rattle.engine_record.specs.Staged.{no_staged}
use Rattle.engine_record.specs.Clients.{client_at, is_open, lowest_closed}
use Rattle.engine_record.specs.Queue.{free_bytes, write_offset, waiting}
use Rattle.engine_record.specs.Rules.{valid}
use Rattle.queue.specs.Refusals.{first_refusal}
use Rattle.queue.specs.Calls.{new_batch, begun, more, is_last}
use Rattle.engine.specs.Run.{oldest, oldest_words}
use Rattle.model.specs.Windows.{Window, In, window, byte}
use Rattle.model.specs.Calls.{Setup, Call, opens, submit, run, begin, piece, cancel, close, opened, done}
use Rattle.claims.specs.Engine.{State, mk_state, perform_call, answers_of, memories_of, SetUpAccepted}
use Rattle.claims.specs.Demand1.{refusal_table_of}
use Rattle.claims.specs.Demand3.{final_state}

-- the bytes of a batch in the ring; of batches, in order
abbrev pub bytes_in : (ring : List ℕ) → Batch → List ℕ
bytes_in ring b = segment ring b.offset b.length

unfoldable pub contents : (ring : List ℕ) → List Batch → List (List ℕ)
contents ring [] = []
contents ring (b ∷ bs) = bytes_in ring b ∷ contents ring bs

-- before and after an accepted submit: the batch is the last to wait, the ring holds its bytes, and the others keep theirs
pub record Submitted (client : ℕ) (bytes : List ℕ) (s after : State) : Type 0 where
  pub last : waiting after.engine ≡ waiting s.engine ++ new_batch s.engine client (length bytes) ∷ []
  pub copied : contents after.ring (waiting after.engine) ≡ contents s.ring (waiting s.engine) ++ bytes ∷ []

-- 02, 6: the bytes of the open hand-over that have come, "right after the newest ready one (at the read offset if none is ready)"
abbrev pub bytes_so_far : State → List ℕ
bytes_so_far s = segment s.ring (write_offset s.engine) s.engine.staged.received

-- before and after an accepted begin: it "holds slot and room" and no byte has come; what waits stays, and so does the ring
pub record Begun (client total : ℕ) (s after : State) : Type 0 where
  pub held : after.engine.staged ≡ begun s.engine client total
  pub waits : waiting after.engine ≡ waiting s.engine
  pub ring : after.ring ≡ s.ring

-- before and after an accepted piece that is not the last: it lies behind the bytes that had come, and what waits stays with its bytes
pub record Continued (bytes : List ℕ) (s after : State) : Type 0 where
  pub on : after.engine.staged ≡ more s.engine.staged (length bytes)
  pub come : bytes_so_far after ≡ bytes_so_far s ++ bytes
  pub waits : waiting after.engine ≡ waiting s.engine
  pub kept : contents after.ring (waiting after.engine) ≡ contents s.ring (waiting s.engine)

-- before and after the last piece: none is open, and its batch, of all the bytes that have come, is the last to wait, "as submit does"
pub record Finished (bytes : List ℕ) (s after : State) : Type 0 where
  pub none : after.engine.staged ≡ no_staged
  pub last : waiting after.engine ≡ waiting s.engine ++ new_batch s.engine s.engine.staged.client s.engine.staged.total ∷ []
  pub copied : contents after.ring (waiting after.engine) ≡ contents s.ring (waiting s.engine) ++ (bytes_so_far s ++ bytes) ∷ []

-- before and after an accepted cancel: none is open, "bytes already copied stay", the read offset stays, and so does what waits
pub record Cancelled (s after : State) : Type 0 where
  pub none : after.engine.staged ≡ no_staged
  pub waits : waiting after.engine ≡ waiting s.engine
  pub read_offset : after.engine.read_offset ≡ s.engine.read_offset
  pub ring : after.ring ≡ s.ring

-- before and after a run that is not refused: it took the first that waited, which lay at the read offset; the others wait on, with their bytes
pub record Taken (s after : State) : Type 0 where
  pub first : waiting s.engine ≡ oldest s.engine ∷ waiting after.engine
  pub at_read : (oldest s.engine).offset ≡ s.engine.read_offset
  pub whole : oldest_words s.engine s.ring ≡ words (bytes_in s.ring (oldest s.engine))
  pub kept : contents s.ring (waiting s.engine) ≡ bytes_in s.ring (oldest s.engine) ∷ contents after.ring (waiting after.engine)
  -- 02, 6: "Runs go on meanwhile": the open hand-over lies where it lay, with its bytes
  pub staged : after.engine.staged ≡ s.engine.staged
  pub so_far : bytes_so_far after ≡ bytes_so_far s

-- the set up, slots, read offset, next ticket and open hand-over are as they were
pub record SameQueue (s after : State) : Type 0 where
  pub setup : after.engine.setup ≡ s.engine.setup
  pub slots : after.engine.slots ≡ s.engine.slots
  pub read_offset : after.engine.read_offset ≡ s.engine.read_offset
  pub next_ticket : after.engine.next_ticket ≡ s.engine.next_ticket
  pub staged : after.engine.staged ≡ s.engine.staged

-- before and after an accepted opening: it takes "the lowest free id" (02, 11), and all else is as it was
pub record Opened (w : Window) (s after : State) : Type 0 where
  pub free : is_open s.engine (lowest_closed s.engine.clients) ≡ false
  pub lowest : (k : ℕ) → k < lowest_closed s.engine.clients → is_open s.engine k ≡ true
  pub window : client_at after.engine (lowest_closed s.engine.clients) ≡ record { window = record { start = w.start; length = w.length }; pending = 0; opened = true }
  pub others : (k : ℕ) → ¬ (k ≡ lowest_closed s.engine.clients) → client_at after.engine k ≡ client_at s.engine k
  pub queue : SameQueue s after
  pub ring : after.ring ≡ s.ring
  pub memory : after.memory ≡ s.memory

-- before and after an accepted closing: "Its window is filled with zeros and the id and window are free" (02, 11). Every other client, every other byte of
-- memory, the ring and what waits are as they were
pub record Closed (client : ℕ) (s after : State) : Type 0 where
  pub free : is_open after.engine client ≡ false
  -- a window inside the freed one, of a byte or more, can be opened at once
  pub window_free : (w : Window) → 0 < w.length → (client_at s.engine client).window.start ≤ w.start →
      w.start + w.length ≤ (client_at s.engine client).window.start + (client_at s.engine client).window.length → first_refusal (refusal_table_of (opens w) after) ≡ 0
  pub others : (k : ℕ) → ¬ (k ≡ client) → client_at after.engine k ≡ client_at s.engine k
  pub zeros : (i : ℕ) → In (window (client_at s.engine client).window.start (client_at s.engine client).window.length) i → byte after.memory i ≡ 0
  pub rest : (i : ℕ) → ¬ (In (window (client_at s.engine client).window.start (client_at s.engine client).window.length) i) → byte after.memory i ≡ byte s.memory i
  pub size : length after.memory ≡ length s.memory
  pub ring : after.ring ≡ s.ring
  pub queue : SameQueue s after
  pub waits : waiting after.engine ≡ waiting s.engine

-- two lists of clients, place by place: the same client, or two that are closed
unfoldable pub SameButClosed : List Client → List Client → Type 0
SameButClosed [] [] = Unit
SameButClosed [] (d ∷ ds) = ⊥
SameButClosed (c ∷ cs) [] = ⊥
SameButClosed (c ∷ cs) (d ∷ ds) = ((c ≡ d) ⊎ ((c.opened ≡ false) × (d.opened ≡ false))) × SameButClosed cs ds

-- the same record, but for its clients
abbrev pub with_clients : EngineRecord → List Client → EngineRecord
with_clients engine clients = record {
  setup = engine.setup;
  clients = clients;
  slots = engine.slots;
  read_offset = engine.read_offset;
  next_ticket = engine.next_ticket;
  staged = engine.staged;
}

-- what closed places hold does not matter: of any valid record, whatever calls made it or none, with any other closed clients in any of its closed places, all
-- calls answer the same and leave the same memory. Four clients, eight slots and a ticket of 32 bits are what a record's type says
abbrev pub ClosedPlacesFree : Type 0
ClosedPlacesFree = (s : State) → valid s.engine ≡ true → length s.engine.clients ≡ 4 → length s.engine.slots ≡ 8 → s.engine.next_ticket < 4294967296 →
    (clients : List Client) → SameButClosed s.engine.clients clients → (calls : List Call) →
    let other : State = mk_state (with_clients s.engine clients) s.ring s.memory in
    (answers_of calls other ≡ answers_of calls s) × (memories_of calls other ≡ memories_of calls s)

pub record Queue (s : State) : Type 0 where
  -- the record keeps its rules: 11 never comes
  pub sound : valid s.engine ≡ true
  -- "A desk is opened with a window"; its id is answered
  pub opens : (w : Window) → first_refusal (refusal_table_of (opens w) s) ≡ 0 →
      ((perform_call (opens w) s).answer ≡ opened (lowest_closed s.engine.clients)) × Opened w s (perform_call (opens w) s).after
  -- 02, 11: "Add closing"; it answers nothing
  pub closes : (client : ℕ) → first_refusal (refusal_table_of (close client) s) ≡ 0 →
      ((perform_call (close client) s).answer ≡ done) × Closed client s (perform_call (close client) s).after
  -- "Submit copies the batch into the ring after the newest one (at the read offset if none is ready)"
  pub after_newest : (batches : List Batch) (newest : Batch) → waiting s.engine ≡ batches ++ newest ∷ [] →
      write_offset s.engine ≡ wrap_offset s.engine.setup.ring (newest.offset + newest.length)
  pub none_ready : waiting s.engine ≡ [] → write_offset s.engine ≡ s.engine.read_offset
  pub submitted : (client : ℕ) (bytes : List ℕ) → first_refusal (refusal_table_of (submit client bytes) s) ≡ 0 →
      Submitted client bytes s (perform_call (submit client bytes) s).after
  -- 02, 6: "begin a batch with its total length and then hand over pieces of any length, zero too"; "it can be cancelled"
  pub begins : (client total : ℕ) → first_refusal (refusal_table_of (begin client total) s) ≡ 0 → Begun client total s (perform_call (begin client total) s).after
  pub continued : (client : ℕ) (bytes : List ℕ) → first_refusal (refusal_table_of (piece client bytes) s) ≡ 0 → is_last s.engine.staged (length bytes) ≡ false →
      Continued bytes s (perform_call (piece client bytes) s).after
  pub finished : (client : ℕ) (bytes : List ℕ) → first_refusal (refusal_table_of (piece client bytes) s) ≡ 0 → is_last s.engine.staged (length bytes) ≡ true →
      Finished bytes s (perform_call (piece client bytes) s).after
  pub cancelled : (client : ℕ) → first_refusal (refusal_table_of (cancel client) s) ≡ 0 → Cancelled s (perform_call (cancel client) s).after
  -- "Run takes the oldest batch .. frees its slot and ring bytes"
  pub taken : first_refusal (refusal_table_of run s) ≡ 0 → Taken s (perform_call run s).after
  -- "free ring bytes are the ring less the waiting lengths", the staged total among them (02, 6)
  pub free : free_bytes s.engine ≡ s.engine.setup.ring - (total_length (waiting s.engine) + s.engine.staged.total)

abbrev pub QueueHolds : Type 0
QueueHolds = (setup : Setup) (ring : List ℕ) → SetUpAccepted setup → (calls : List Call) (memory : List ℕ) → Queue (final_state setup ring calls memory)
