-- Laws of a batch copied into the ring: the ring's length and each of its bytes.
use mathlib.Core.Path.{◌≡◌, sym, ap, ◌∙◌}
use mathlib.Core.List.{List, ◌++◌, append-nil}
use mathlib.Core.Logic.{⊎_elim}
use Prim.Native.Nat.{ℕ, suc, ◌+◌, ◌-◌, ◌≤◌, ◌<◌}
use native.Mathlib.Numerals.{add-one}
use native.Mathlib.Omega.{arith}
use lib.ListN.{length, take, drop, get_or, set, length-take, length-drop, drop_of_length-le}
use lib.Seq.{ext_get_or, get_or-take, get_or-drop, drop-drop, take-suc, drop-cons, set_at, append_snoc, take_all, length-take-le}
use borrow.Rule.Slice.PartMut.{put_mid}
use Rattle.word.specs.Splice.{spliced}
use Rattle.word.proofs.Splice.{length-spliced, spliced-before, spliced_in, spliced-past}
use Rattle.word.proofs.Tests.{split}
use Rattle.ring.specs.Segment.{LiesInRing, segment, wrap_offset}
use Rattle.ring.specs.Copied.{copied_in}
use Rattle.ring.proofs.Wrapped.{wrapped_in, wrapped_over}
use Rattle.ring.proofs.Segment.{length-segment, segment-byte}

-- one element more of a copy from the front on
pub copy_more : (to from : List ℕ) (i : ℕ) → i < length to → i < length from
    → set (take i from ++ drop i to) i (get_or from i 0) ≡ take (i + 1) from ++ drop (i + 1) to
copy_more to from i h k =
    ap (λ (l : List ℕ). set (take i from ++ l) i (get_or from i 0)) (drop-cons to i 0 h)
    ∙ set_at (take i from) (get_or to i 0) (drop (suc i) to) (get_or from i 0) i (length-take-le i from (omega arith))
    ∙ sym (rw (add-one, take-suc from i 0 k) (append_snoc (take i from) (get_or from i 0) (drop (suc i) to)))

-- all of them
pub copy-all : (to from : List ℕ) (i : ℕ) → length to ≤ i → length from ≤ i → take i from ++ drop i to ≡ from
copy-all to from i h k = rw (take_all i from k, drop_of_length-le to h) (append-nil from)

-- a part that was lent from `at` on and holds ys when it comes back
pub put_spliced : (at : ℕ) (ys xs : List ℕ) → put_mid at (at + length ys - at) xs ys ≡ spliced at ys xs
unfolding spliced
put_spliced at ys xs =
    let e : at + length ys - at ≡ length ys = omega arith in
    ap (λ (n : ℕ). put_mid at n xs ys) e ∙ ap (λ (l : List ℕ). take at xs ++ (ys ++ l)) (drop-drop (length ys) at xs)

-- a batch that ends before the ring does is copied in one part
pub copied-one : (ring : List ℕ) (offset : ℕ) (batch : List ℕ) → length batch ≤ length ring - offset → copied_in ring offset batch ≡ spliced offset batch ring
unfolding copied_in spliced
copied-one ring offset batch h = rw (take_all (length ring - offset) batch h, drop_of_length-le batch h)

module _ (ring : List ℕ) (offset : ℕ) (batch : List ℕ) (at : LiesInRing ring offset (length batch)) where
  -- the two parts, and the ring with the first of them
  abbrev first : List ℕ
  first = take (length ring - offset) batch

  abbrev second : List ℕ
  second = drop (length ring - offset) batch

  abbrev half : List ℕ
  half = spliced offset first ring

  first_fits : offset + length first ≤ length ring
  first_fits = simp length-take (omega arith)

  length-half : length half ≡ length ring
  length-half = length-spliced offset first ring first_fits

  second_fits : 0 + length second ≤ length half
  second_fits = rw (length-half, length-drop) (omega arith)

  pub length-copied : length (copied_in ring offset batch) ≡ length ring
  unfolding copied_in
  length-copied = length-spliced 0 second half second_fits ∙ length-half

  -- what lies in the ring still does
  pub lies_copied : (o size : ℕ) → LiesInRing ring o size → LiesInRing (copied_in ring offset batch) o size
  lies_copied o size l = record { starts = rw length-copied l.starts; fits = rw length-copied l.fits }

  -- past the second part
  past-second : (j : ℕ) → length batch ≤ length ring - offset + j → get_or (copied_in ring offset batch) j 0 ≡ get_or half j 0
  unfolding copied_in
  past-second j h = spliced-past 0 second half second_fits j (simp length-drop (omega arith))

  -- a byte of the first part
  pub copied-front : (i : ℕ) → i < length batch → offset + i < length ring → get_or (copied_in ring offset batch) (offset + i) 0 ≡ get_or batch i 0
  copied-front i h k =
      let e : offset + i - offset ≡ i = omega arith in
      past-second (offset + i) (omega arith)
      ∙ spliced_in offset first ring first_fits (offset + i) (omega arith) (simp length-take (omega arith))
      ∙ ap (λ (m : ℕ). get_or first m 0) e
      ∙ get_or-take (length ring - offset) batch i 0 (omega arith)

  -- a byte of the second part
  pub copied-back : (i : ℕ) → i < length batch → length ring ≤ offset + i → get_or (copied_in ring offset batch) (offset + i - length ring) 0 ≡ get_or batch i 0
  unfolding copied_in
  copied-back i h k =
      let e : length ring - offset + (offset + i - length ring - 0) ≡ i = omega arith in
      spliced_in 0 second half second_fits (offset + i - length ring) (omega arith) (simp length-drop (omega arith))
      ∙ get_or-drop (length ring - offset) batch (offset + i - length ring - 0) 0
      ∙ ap (λ (m : ℕ). get_or batch m 0) e

  -- any other byte is as before: it lies past the second part, and before the first part or past it
  pub copied-before : (j : ℕ) → length batch ≤ length ring - offset + j → j < offset → get_or (copied_in ring offset batch) j 0 ≡ get_or ring j 0
  copied-before j h k = past-second j h ∙ spliced-before offset first ring first_fits j k

  pub copied-past : (j : ℕ) → offset + length batch ≤ j → get_or (copied_in ring offset batch) j 0 ≡ get_or ring j 0
  copied-past j h = past-second j (omega arith) ∙ spliced-past offset first ring first_fits j (simp length-take (omega arith))

  -- byte i of the batch, counted from `offset` on
  pub copied_in_lem : (i : ℕ) → i < length batch → get_or (copied_in ring offset batch) (wrap_offset (length ring) (offset + i)) 0 ≡ get_or batch i 0
  copied_in_lem i h = ⊎_elim inside over (split (offset + i) (length ring))
    where
      inside : offset + i < length ring → get_or (copied_in ring offset batch) (wrap_offset (length ring) (offset + i)) 0 ≡ get_or batch i 0
      inside p = rw (wrapped_in (length ring) (offset + i) p) (copied-front i h p)

      over : length ring ≤ offset + i → get_or (copied_in ring offset batch) (wrap_offset (length ring) (offset + i)) 0 ≡ get_or batch i 0
      over p = rw (wrapped_over (length ring) (offset + i) p) (copied-back i h p)

  -- a byte past the batch, counted from `offset` on
  pub copied_out : (i : ℕ) → length batch ≤ i → i < length ring → get_or (copied_in ring offset batch) (wrap_offset (length ring) (offset + i)) 0 ≡ get_or ring (wrap_offset (length ring) (offset + i)) 0
  copied_out i h k = ⊎_elim inside over (split (offset + i) (length ring))
    where
      inside : offset + i < length ring → get_or (copied_in ring offset batch) (wrap_offset (length ring) (offset + i)) 0 ≡ get_or ring (wrap_offset (length ring) (offset + i)) 0
      inside p = rw (wrapped_in (length ring) (offset + i) p) (copied-past (offset + i) (omega arith))

      over : length ring ≤ offset + i → get_or (copied_in ring offset batch) (wrap_offset (length ring) (offset + i)) 0 ≡ get_or ring (wrap_offset (length ring) (offset + i)) 0
      over p = rw (wrapped_over (length ring) (offset + i) p) (copied-before (offset + i - length ring) (omega arith) (omega arith))

  -- what was copied in is read back
  pub segment-copied : segment (copied_in ring offset batch) offset (length batch) ≡ batch
  segment-copied =
      let lies = lies_copied offset (length batch) at in
      let long = length-segment (copied_in ring offset batch) offset (length batch) lies in
      ext_get_or 0 (segment (copied_in ring offset batch) offset (length batch)) batch long
      (λ i l.
      let h : i < length batch = rw long at l in
      rw length-copied at (segment-byte (copied_in ring offset batch) offset (length batch) lies i h) ∙ copied_in_lem i h)
