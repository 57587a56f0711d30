-- Places and waiting batches of a record as the model sees them.
use mathlib.Core.Path.{◌≡◌, refl, ap}
use mathlib.Core.List.{List, [], ◌∷◌}
use mathlib.Core.Bool.{Bool, true, false, cond}
use Prim.Native.Nat.{ℕ, zero, suc, ◌+◌, ◌≤◌, ◌<◌}
use native.Mathlib.Omega.{arith}
use lib.ListN.{length, get_or, set}
use Rattle.ring.specs.Segment.{wrap_offset}
use Rattle.ring.proofs.Segment.{lies_wrapped, length-segment}
use Rattle.engine_record.specs.declared.Window.{Window as Span}
use Rattle.engine_record.specs.declared.Client.{Client}
use Rattle.engine_record.specs.declared.Batch.{Batch as Ready}
use Rattle.engine_record.specs.Slots.{sum_over, total_length, count_of as countIn}
use Rattle.engine_record.specs.Clients.{no_client, windows_of, lowest_closed}
use Rattle.engine_record.specs.Rules.{end_to_end}
use Rattle.engine_record.proofs.Line.{headed, held}
use Rattle.engine_record.proofs.Opened.{recounted}
use Rattle.model.specs.Windows.{Window, window}
use Rattle.model.specs.State.{Batch, batch, Place, free, taken, is_taken, window_in, windows_in, lowest_free_id, total_bytes, count_of}

-- ---- windows and places

abbrev pub seen_window : Span → Window
seen_window w = window w.start w.length

unfoldable pub seen_windows : List Span → List Window
seen_windows [] = []
seen_windows (w ∷ ws) = seen_window w ∷ seen_windows ws

pub seen-length : (ws : List Span) → length (seen_windows ws) ≡ length ws
unfolding seen_windows
seen-length [] = refl
seen-length (w ∷ ws) = ap suc (seen-length ws)

-- a place is taken with its window, or free whatever it holds
abbrev pub seen_place : Client → Place
seen_place c = cond c.opened (taken (seen_window c.window)) free

unfoldable pub seen_places : List Client → List Place
seen_places [] = []
seen_places (c ∷ cs) = seen_place c ∷ seen_places cs

pub places_windows : (cs : List Client) → windows_in (seen_places cs) ≡ seen_windows (windows_of cs)
unfolding seen_places seen_windows windows_in windows_of
places_windows [] = refl
places_windows (c ∷ cs) = go c.opened (places_windows cs)
  where
    go : (t : Bool) → windows_in (seen_places cs) ≡ seen_windows (windows_of cs) →
        windows_in (cond t (taken (seen_window c.window)) free ∷ seen_places cs) ≡ seen_windows (cond t (c.window ∷ windows_of cs) (windows_of cs))
    go true e = ap (λ (l : List Window). seen_window c.window ∷ l) e
    go false e = e

pub places-lowest : (cs : List Client) → lowest_free_id (seen_places cs) ≡ lowest_closed cs
unfolding seen_places lowest_free_id lowest_closed
places-lowest [] = refl
places-lowest (c ∷ cs) = go c.opened (places-lowest cs)
  where
    go : (t : Bool) → lowest_free_id (seen_places cs) ≡ lowest_closed cs → lowest_free_id (cond t (taken (seen_window c.window)) free ∷ seen_places cs) ≡ cond t (suc (lowest_closed cs)) 0
    go true e = ap suc e
    go false e = refl

pub place-taken : (k : ℕ) (cs : List Client) → is_taken (get_or (seen_places cs) k free) ≡ (get_or cs k no_client).opened
unfolding seen_places
place-taken k [] = refl
place-taken zero (c ∷ cs) = go c.opened
  where
    go : (t : Bool) → is_taken (cond t (taken (seen_window c.window)) free) ≡ t
    go true = refl
    go false = refl
place-taken (suc k) (c ∷ cs) = place-taken k cs

pub place-window : (k : ℕ) (cs : List Client) → (get_or cs k no_client).opened ≡ true → window_in (get_or (seen_places cs) k free) ≡ seen_window (get_or cs k no_client).window
unfolding seen_places
place-window k [] e = refl
place-window zero (c ∷ cs) e = rw e
place-window (suc k) (c ∷ cs) e = place-window k cs e

pub places-set : (cs : List Client) (k : ℕ) (c : Client) → seen_places (set cs k c) ≡ set (seen_places cs) k (seen_place c)
unfolding seen_places
places-set [] k c = refl
places-set (d ∷ cs) zero c = refl
places-set (d ∷ cs) (suc k) c = ap (λ (l : List Place). seen_place d ∷ l) (places-set cs k c)

-- another count beside the same window
pub places-recounted : (cs : List Client) (k pending : ℕ) → seen_places (recounted cs k pending) ≡ seen_places cs
unfolding seen_places
places-recounted [] k p = refl
places-recounted (c ∷ cs) zero p = refl
places-recounted (c ∷ cs) (suc k) p = ap (λ (l : List Place). seen_place c ∷ l) (places-recounted cs k p)

-- ---- waiting batches

abbrev pub seen_batch : Ready → List ℕ → Batch
seen_batch b bytes = batch b.client b.ticket bytes

abbrev pub seen_waiting : List ℕ → List Ready → List Batch
seen_waiting ring bs = held seen_batch ring bs

pub waits-length : (ring : List ℕ) (bs : List Ready) → length (seen_waiting ring bs) ≡ length bs
unfolding held
waits-length ring [] = refl
waits-length ring (b ∷ bs) = ap suc (waits-length ring bs)

pub waits-count : (client : ℕ) (ring : List ℕ) (bs : List Ready) → count_of client (seen_waiting ring bs) ≡ countIn client bs
unfolding held count_of sum_over
waits-count client ring [] = refl
waits-count client ring (b ∷ bs) = rw (waits-count client ring bs)

-- batches that lie end to end in the ring, from u bytes past `read` on, have their lengths in bytes
pub waits-bytes : (ring : List ℕ) (read u : ℕ) (bs : List Ready) → read < length ring → u + total_length bs ≤ length ring →
    end_to_end (length ring) (wrap_offset (length ring) (read + u)) bs ≡ true → total_bytes (seen_waiting ring bs) ≡ total_length bs
unfolding held total_bytes sum_over
waits-bytes ring read u [] below h e = refl
waits-bytes ring read u (b ∷ bs) below h e =
    let q = headed (length ring) read below u b bs (omega arith) e in
    let size = length-segment ring (wrap_offset (length ring) (read + u)) b.length (lies_wrapped ring read u b.length below (omega arith)) in
    let rest = waits-bytes ring read (u + b.length) bs below (omega arith) q.rest in
    rw (q.at, size, rest)
