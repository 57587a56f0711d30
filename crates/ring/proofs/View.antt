-- The ring seen from an offset on: a batch there is its front, and a batch copied in lies in one part.
use mathlib.Core.Path.{◌≡◌, sym, ap, ◌∙◌}
use mathlib.Core.List.{List, ◌++◌}
use mathlib.Core.Logic.{⊎_elim}
use Prim.Native.Nat.{ℕ, ◌+◌, ◌-◌, ◌≤◌, ◌<◌}
use native.Mathlib.Omega.{arith}
use lib.ListN.{length, take, drop, get_or, length-take, length-drop, take-append-drop}
use lib.Seq.{ext_get_or, get_or-take, get_or-drop, take-append-le, drop-append-le, length-take-le}
use Rattle.word.specs.Splice.{spliced}
use Rattle.word.proofs.Splice.{length-spliced, spliced-before, spliced_in, spliced-past}
use Rattle.word.proofs.Tests.{split}
use Rattle.ring.specs.Segment.{segment, LiesInRing, wrap_offset}
use Rattle.ring.specs.Copied.{copied_in}
use Rattle.ring.proofs.Wrapped.{wrapped_add, wrapped_round}
use Rattle.ring.proofs.Segment.{lies_wrapped, length-segment, segment-byte}
use Rattle.ring.proofs.Copied.{length-copied, copied_in_lem, copied_out}

-- all the ring's bytes, in order from `read` on
abbrev pub view : List ℕ → ℕ → List ℕ
view ring read = segment ring read (length ring)

module _ (ring : List ℕ) (read : ℕ) (below : read < length ring) where
  whole : LiesInRing ring read (length ring)
  whole = record { starts = below; fits = omega arith }

  pub length-view : length (view ring read) ≡ length ring
  length-view = length-segment ring read (length ring) whole

  pub view-byte : (i : ℕ) → i < length ring → get_or (view ring read) i 0 ≡ get_or ring (wrap_offset (length ring) (read + i)) 0
  view-byte i h = segment-byte ring read (length ring) whole i h

  -- a batch u bytes on is the part of the view from u on
  pub segment-view : (u size : ℕ) → u + size ≤ length ring → segment ring (wrap_offset (length ring) (read + u)) size ≡ take size (drop u (view ring read))
  segment-view u size h =
      ext_get_or 0 (segment ring offset size) (take size (drop u (view ring read)))
      (length-segment ring offset size lies ∙ sym long)
      (λ i l. at i (rw (length-segment ring offset size lies) at l))
    where
      offset : ℕ
      offset = wrap_offset (length ring) (read + u)

      lies : LiesInRing ring offset size
      lies = lies_wrapped ring read u size below h

      long : length (take size (drop u (view ring read))) ≡ size
      long = simp (length-take, length-drop, length-view) (omega arith)

      at : (i : ℕ) → i < size → get_or (segment ring offset size) i 0 ≡ get_or (take size (drop u (view ring read))) i 0
      at i l =
          segment-byte ring offset size lies i l
          ∙ ap (λ (m : ℕ). get_or ring m 0) (wrapped_add (length ring) read u i below (omega arith))
          ∙ sym (get_or-take size (drop u (view ring read)) i 0 l ∙ get_or-drop u (view ring read) i 0 ∙ view-byte (u + i) (omega arith))

-- a batch copied in u bytes on lies in the view from u on, and the view is otherwise as before
module _ (ring : List ℕ) (read : ℕ) (below : read < length ring) (u : ℕ) (batch : List ℕ) (fits : u + length batch ≤ length ring) where
  abbrev to : ℕ
  to = wrap_offset (length ring) (read + u)

  abbrev new : List ℕ
  new = copied_in ring to batch

  lies : LiesInRing ring to (length batch)
  lies = lies_wrapped ring read u (length batch) below fits

  -- byte i of the new view, by where it lies
  module _ (i : ℕ) (h : i < length ring) where
    abbrev Spliced : Type 0
    Spliced = get_or new (wrap_offset (length ring) (read + i)) 0 ≡ get_or (spliced u batch (view ring read)) i 0

    room : u + length batch ≤ length (view ring read)
    room = rw (length-view ring read below) fits

    in_front : i < u → Spliced
    in_front l =
        let same = wrapped_round (length ring) read u i below (omega arith) l in
        rw same at (copied_out ring to batch lies (length ring - u + i) (omega arith) (omega arith))
        ∙ sym (spliced-before u batch (view ring read) room i l ∙ view-byte ring read below i h)

    on : u ≤ i → wrap_offset (length ring) (to + (i - u)) ≡ wrap_offset (length ring) (read + i)
    on l = wrapped_add (length ring) read u (i - u) below (omega arith) ∙ ap (λ (m : ℕ). wrap_offset (length ring) (read + m)) (omega arith)

    within : u ≤ i → i < u + length batch → Spliced
    within l m =
        rw (on l) at (copied_in_lem ring to batch lies (i - u) (omega arith))
        ∙ sym (spliced_in u batch (view ring read) room i l m)

    behind : u + length batch ≤ i → Spliced
    behind l =
        rw (on (omega arith)) at (copied_out ring to batch lies (i - u) (omega arith) (omega arith))
        ∙ sym (spliced-past u batch (view ring read) room i l ∙ view-byte ring read below i h)

    each : Spliced
    each = ⊎_elim in_front (λ (l : u ≤ i). ⊎_elim (within l) behind (split i (u + length batch))) (split i u)

  kept : length new ≡ length ring
  kept = length-copied ring to batch lies

  pub view-copied : view (copied_in ring (wrap_offset (length ring) (read + u)) batch) read ≡ spliced u batch (view ring read)
  view-copied =
      let room : u + length batch ≤ length (view ring read) = rw (length-view ring read below) fits in
      let inside : read < length new = rw kept below in
      let long : length (view new read) ≡ length ring = length-view new read inside ∙ kept in
      ext_get_or 0 (view new read) (spliced u batch (view ring read))
      (long ∙ sym (length-spliced u batch (view ring read) room ∙ length-view ring read below))
      (λ i l.
      let h : i < length ring = rw long at l in
      view-byte new read inside i (rw kept h)
      ∙ ap (λ (n : ℕ). get_or new (wrap_offset n (read + i)) 0) kept
      ∙ each i h)

-- what stands before a run that is put in
pub take-spliced : (u size v : ℕ) (ys xs : List ℕ) → u + size ≤ v → v ≤ length xs → take size (drop u (spliced v ys xs)) ≡ take size (drop u xs)
unfolding spliced
take-spliced u size v ys xs h k =
    before (ys ++ drop (v + length ys) xs) ∙ sym (before (drop v xs)) ∙ ap (λ (l : List ℕ). take size (drop u l)) (take-append-drop v xs)
  where
    long : length (take v xs) ≡ v
    long = length-take-le v xs k

    before : (rest : List ℕ) → take size (drop u (take v xs ++ rest)) ≡ take size (drop u (take v xs))
    before rest =
        rw (drop-append-le u (take v xs) rest (rw long (omega arith)), take-append-le size (drop u (take v xs)) rest (rw (length-drop, long) (omega arith)))

-- a batch u bytes on is not changed by one that is copied in past its end
pub segment-kept-on : (ring : List ℕ) (read u size v : ℕ) (batch : List ℕ) → read < length ring → u + size ≤ v → v + length batch ≤ length ring
    → segment (copied_in ring (wrap_offset (length ring) (read + v)) batch) (wrap_offset (length ring) (read + u)) size
    ≡ segment ring (wrap_offset (length ring) (read + u)) size
segment-kept-on ring read u size v batch below h k =
    let new : List ℕ = copied_in ring (wrap_offset (length ring) (read + v)) batch in
    let kept : length new ≡ length ring = length-copied ring (wrap_offset (length ring) (read + v)) batch (lies_wrapped ring read v (length batch) below k) in
    let inside : read < length new = rw kept below in
    let fits : u + size ≤ length new = rw kept (omega arith) in
    ap (λ (n : ℕ). segment new (wrap_offset n (read + u)) size) (sym kept)
    ∙ segment-view new read inside u size fits
    ∙ ap (λ (l : List ℕ). take size (drop u l)) (view-copied ring read below v batch k)
    ∙ take-spliced u size v batch (view ring read) h (rw (length-view ring read below) (omega arith))
    ∙ sym (segment-view ring read below u size (omega arith))
