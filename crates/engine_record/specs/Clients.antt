-- Clients (01: desks) and their windows (01, "Engine, desks, queue"). A client's id is its place, 0 to 3, and any of them may be open (02, 11:
-- "Record rules amended for gaps in ids"). What a place that is not open holds is free: no definition looks at it.
use Rattle.std.specs.Prelude.{ℕ, suc, Bool, true, false, cond, not, ◌&&◌, ◌||◌, List, [], ◌∷◌, ◌==◌, nat_lt, slice_index_or}
use Rattle.range.specs.declared.Range.{Range}
use Rattle.range.specs.Range.{range_of, contained_in, overlaps}
use Rattle.engine_record.specs.declared.Setup.{Setup}
use Rattle.engine_record.specs.declared.Window.{Window}
use Rattle.engine_record.specs.declared.Client.{Client}
use Rattle.engine_record.specs.declared.Batch.{Batch}
use Rattle.engine_record.specs.declared.EngineRecord.{EngineRecord}
use Rattle.engine_record.specs.Slots.{count_of}

-- what a place holds that was never opened, or that was closed
abbrev pub no_client : Client
no_client = record { window = record { start = 0; length = 0 }; pending = 0; opened = false }

-- the place of an id
abbrev pub client_at : EngineRecord → ℕ → Client
client_at engine client = slice_index_or engine.clients client no_client

-- there is such a client; "ids are 0 to 3"
abbrev pub is_open : EngineRecord → ℕ → Bool
is_open engine client = nat_lt client 4 && (client_at engine client).opened

-- the windows of the open clients, in the order of their ids
unfoldable pub windows_of : List Client → List Window
windows_of [] = []
windows_of (c ∷ cs) = cond c.opened (c.window ∷ windows_of cs) (windows_of cs)

-- the windows that are taken
abbrev pub open_windows : EngineRecord → List Window
open_windows engine = windows_of engine.clients

-- 02, 11: "opening takes the lowest free id"; the number of places if none is free
unfoldable pub lowest_closed : List Client → ℕ
lowest_closed [] = 0
lowest_closed (c ∷ cs) = cond c.opened (suc (lowest_closed cs)) 0

-- the bytes of memory that a window holds
abbrev pub window_range : Window → Range
window_range w = range_of w.start w.length

-- the first bytes of memory: all of it, or the common area
abbrev pub prefix_range : ℕ → Range
prefix_range n = record { start = 0; end = n }

-- some of the bytes are a window's
unfoldable pub overlaps_any : Range → List Window → Bool
overlaps_any bytes [] = false
overlaps_any bytes (w ∷ ws) = overlaps bytes (window_range w) || overlaps_any bytes ws

-- 4: "window empty, past memory's end, or sharing a byte with common or another window"
abbrev pub bad_window : Setup → (others : List Window) → Window → Bool
bad_window setup others w =
    (w.length == 0) || not (contained_in (window_range w) (prefix_range setup.memory)) || overlaps (window_range w) (prefix_range setup.common) || overlaps_any (window_range w) others

-- 4 is true of none of the windows. Overlap is symmetric, so each window is compared with the later ones.
unfoldable pub windows_valid : Setup → List Window → Bool
windows_valid setup [] = true
windows_valid setup (w ∷ ws) = not (bad_window setup ws w) && windows_valid setup ws

-- the open ones of the clients, whose ids go on from `id`, have as many batches pending as are theirs
unfoldable pub pending_counts_match : (id : ℕ) → List Client → List Batch → Bool
pending_counts_match id [] batches = true
pending_counts_match id (c ∷ cs) batches = (not c.opened || c.pending == count_of id batches) && pending_counts_match (suc id) cs batches
