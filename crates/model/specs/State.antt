-- What the model keeps (01, "The book of demand 3": "It keeps windows, waiting batches in order .., the number accepted, and memory"; 02, 6:
-- "The book keeps the open hand-over"; 02, 11: an id may be free again).
use Rattle.std.specs.Prelude.{◌≡◌, List, [], ◌∷◌, Bool, true, false, cond, ℕ, suc, ◌+◌, ◌-◌, length, get_or, replicate, eqb}
use Rattle.model.specs.Windows.{Window, window, In}

-- An accepted batch: its client (01: desk), its ticket and its bytes (01, "The book of demand 3": "each with desk and ticket").
pub record Batch : Type 0 where
  pub client : ℕ
  pub ticket : ℕ
  pub bytes : List ℕ

-- Short for the record.
abbrev pub batch : ℕ → ℕ → List ℕ → Batch
batch client ticket bytes = record { client = client; ticket = ticket; bytes = bytes }

-- The place of one client id: free (02, 11: "the id and window are free"), or taken by a client with its window.
pub data Place : Type 0 where
  free : Place
  taken : Window → Place

-- A staged submission (02, 6: hand-over): none, or the one that is open (02, 6: "One hand-over at a time"), "with its desk, total length and
-- bytes so far".
pub data Staging : Type 0 where
  idle : Staging
  staging : (client total : ℕ) (bytes : List ℕ) → Staging

-- 01, "The book of demand 3"; 02, 6 and 11. Client k's place is at index k; waiting batches stand in the order in which run takes them.
pub record Model : Type 0 where
  pub places : List Place
  pub waiting : List Batch
  pub staged : Staging
  pub accepted : ℕ
  pub memory : List ℕ

-- 01, "The book of demand 3": "at first no window, nothing waiting, 0", and the memory that is lent. Ids are 0 to 3.
abbrev pub initial_model : List ℕ → Model
initial_model memory = record { places = replicate 4 free; waiting = []; staged = idle; accepted = 0; memory = memory }

-- ---- clients: nothing but these looks one up, so that another way to keep them changes these alone

-- A client has the place.
abbrev pub is_taken : Place → Bool
is_taken free = false
is_taken (taken w) = true

-- Its window; asked only of a taken place.
abbrev pub window_in : Place → Window
window_in free = window 0 0
window_in (taken w) = w

-- The place of an id. Past the last place there is no client.
abbrev pub place_of : Model → ℕ → Place
place_of model client = get_or model.places client free

-- 01, "Engine, desks, queue", the table, 5: there is such a client.
abbrev pub is_open : Model → ℕ → Bool
is_open model client = is_taken (place_of model client)

-- An open client's window; asked only of open clients.
abbrev pub window_of : Model → ℕ → Window
window_of model client = window_in (place_of model client)

-- The windows of the taken places, in the order of the ids.
unfoldable pub windows_in : List Place → List Window
windows_in [] = []
windows_in (free ∷ places) = windows_in places
windows_in (taken w ∷ places) = w ∷ windows_in places

-- The first place that is free (02, 11: "the lowest free id"); past the last if none is.
unfoldable pub lowest_free_id : List Place → ℕ
lowest_free_id [] = 0
lowest_free_id (free ∷ places) = 0
lowest_free_id (taken w ∷ places) = suc (lowest_free_id places)

-- The id that the next open gives (02, 11: "open takes the lowest free id").
abbrev pub next_client : Model → ℕ
next_client model = lowest_free_id model.places

-- The windows that are taken (01, "Engine, desks, queue", the table, 3 and 4; 02, 11: '"Four desks open" counts open ones').
abbrev pub open_windows : Model → List Window
open_windows model = windows_in model.places

-- The client is open and byte i lies in its window (01, "Engine, desks, queue").
abbrev pub Owns : Model → ℕ → ℕ → Type 0
Owns model client i = (is_open model client ≡ true) × In (window_of model client) i

-- ---- the staged submission

-- None is open (02, 6, 13: "a hand-over is open").
abbrev pub is_idle : Staging → Bool
is_idle idle = true
is_idle (staging client total bytes) = false

-- It is open, and this client's (02, 6, 14: "none open for this desk").
abbrev pub staged_by : Staging → ℕ → Bool
staged_by idle client = false
staged_by (staging owner total bytes) client = eqb owner client

-- 02, 6: "the bytes still to come".
abbrev pub missing_bytes : Staging → ℕ
missing_bytes idle = 0
missing_bytes (staging client total bytes) = total - length bytes

-- 02, 6: the book "counts it as a waiting batch of that length for slots and room". Its slot.
abbrev pub staged_slots : Staging → ℕ
staged_slots idle = 0
staged_slots (staging client total bytes) = 1

-- Its room: the whole length from the beginning on.
abbrev pub staged_bytes : Staging → ℕ
staged_bytes idle = 0
staged_bytes (staging client total bytes) = total

-- ---- waiting batches

-- A slot is taken by each batch that waits (01, "The book of demand 3": "no slot is free when eight batches wait") and by the staged one.
abbrev pub taken_slots : Model → ℕ
taken_slots model = length model.waiting + staged_slots model.staged

-- The batches' lengths, summed.
unfoldable pub total_bytes : List Batch → ℕ
total_bytes [] = 0
total_bytes (b ∷ bs) = length b.bytes + total_bytes bs

-- The waiting lengths (01, "The book of demand 3": "free ring bytes are the ring less the waiting lengths"), the staged total among them.
abbrev pub taken_bytes : Model → ℕ
taken_bytes model = total_bytes model.waiting + staged_bytes model.staged

-- How many of the batches are the client's (01, "The book of demand 3": "Pending counts the desk's waiting batches").
unfoldable pub count_of : ℕ → List Batch → ℕ
count_of client [] = 0
count_of client (b ∷ bs) = cond (eqb b.client client) 1 0 + count_of client bs
