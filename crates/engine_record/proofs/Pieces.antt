-- Laws of a batch that is copied in by pieces: each goes on where the last one ended, and all together are the whole batch copied in at once.
use Rattle.std.proofs.Common.{◌≡◌, ℕ, ◌+◌, ◌-◌, ◌<◌, ◌≤◌, List, ◌++◌, length, get_or, sym, refl, ap, ◌∙◌, ⊎_elim, arith, length-append, ext_get_or}
use lib.ListN.{get_or-append}
use Rattle.word.proofs.Splice.{get_or_right}
use Rattle.word.proofs.Tests.{split}
use Rattle.ring.specs.Segment.{LiesInRing, segment, wrap_offset}
use Rattle.ring.specs.Copied.{copied_in}
use Rattle.ring.proofs.Wrapped.{wrapped_in, wrapped_over, wrapped_below, wrapped_add, wrapped_round}
use Rattle.ring.proofs.Segment.{length-segment, segment-byte}
use Rattle.ring.proofs.Copied.{length-copied, copied_in_lem, copied_out}

-- two rings of one length that agree at every distance from an offset are one
same-round : (n o : ℕ) (xs ys : List ℕ) → o < n → length xs ≡ n → length ys ≡ n →
    ((i : ℕ) → i < n → get_or xs (wrap_offset n (o + i)) 0 ≡ get_or ys (wrap_offset n (o + i)) 0) → xs ≡ ys
same-round n o xs ys below a b h = ext_get_or 0 xs ys (a ∙ sym b) (λ j l. ⊎_elim (before j (omega arith)) (behind j (omega arith)) (split j o))
  where
    before : (j : ℕ) → j < n → j < o → get_or xs j 0 ≡ get_or ys j 0
    before j l p =
        let e : wrap_offset n (o + (n - o + j)) ≡ j = rw (wrapped_over n (o + (n - o + j)) (omega arith)) (omega arith) in
        rw e at (h (n - o + j) (omega arith))

    behind : (j : ℕ) → j < n → o ≤ j → get_or xs j 0 ≡ get_or ys j 0
    behind j l p =
        let e : wrap_offset n (o + (j - o)) ≡ j = rw (wrapped_in n (o + (j - o)) (omega arith)) (omega arith) in
        rw e at (h (j - o) (omega arith))

module _ (ring : List ℕ) (o : ℕ) (xs ys : List ℕ) (below : o < length ring) (fits : length xs + length ys ≤ length ring) where
  abbrev n : ℕ
  n = length ring

  -- the ring with the first piece, and where the second goes
  abbrev half : List ℕ
  half = copied_in ring o xs

  abbrev p : ℕ
  p = wrap_offset n (o + length xs)

  lies_first : LiesInRing ring o (length xs)
  lies_first = record { starts = below; fits = omega arith }

  length-half : length half ≡ n
  length-half = length-copied ring o xs lies_first

  lies_second : LiesInRing half p (length ys)
  lies_second = record { starts = rw length-half (wrapped_below n (o + length xs) (omega arith)); fits = rw length-half (omega arith) }

  lies_both : LiesInRing ring o (length (xs ++ ys))
  lies_both = record { starts = below; fits = rw (length-append xs ys) fits }

  second_in : (j : ℕ) → j < length ys → get_or (copied_in half p ys) (wrap_offset n (p + j)) 0 ≡ get_or ys j 0
  second_in j h = rw length-half at (copied_in_lem half p ys lies_second j h)

  second_out : (j : ℕ) → length ys ≤ j → j < n → get_or (copied_in half p ys) (wrap_offset n (p + j)) 0 ≡ get_or half (wrap_offset n (p + j)) 0
  second_out j h k = (rw length-half at (copied_out half p ys lies_second j h)) k

  round : (i : ℕ) → i < n → get_or (copied_in half p ys) (wrap_offset n (o + i)) 0 ≡ get_or (copied_in ring o (xs ++ ys)) (wrap_offset n (o + i)) 0
  round i l = ⊎_elim first (λ (h : length xs ≤ i). ⊎_elim (second h) (neither h) (split i (length xs + length ys))) (split i (length xs))
    where
      first : i < length xs → get_or (copied_in half p ys) (wrap_offset n (o + i)) 0 ≡ get_or (copied_in ring o (xs ++ ys)) (wrap_offset n (o + i)) 0
      first h =
          (rw (wrapped_round n o (length xs) i below (omega arith) h) at (second_out (n - length xs + i) (omega arith) (omega arith)))
          ∙ copied_in_lem ring o xs lies_first i h
          ∙ sym (get_or-append xs ys 0 i h)
          ∙ sym (copied_in_lem ring o (xs ++ ys) lies_both i (rw (length-append xs ys) (omega arith)))

      on : length xs ≤ i → wrap_offset n (p + (i - length xs)) ≡ wrap_offset n (o + i)
      on h = wrapped_add n o (length xs) (i - length xs) below (omega arith) ∙ ap (λ (m : ℕ). wrap_offset n (o + m)) (omega arith)

      second : length xs ≤ i → i < length xs + length ys → get_or (copied_in half p ys) (wrap_offset n (o + i)) 0 ≡ get_or (copied_in ring o (xs ++ ys)) (wrap_offset n (o + i)) 0
      second h k =
          (rw (on h) at (second_in (i - length xs) (omega arith)))
          ∙ sym (get_or_right xs ys (length xs) i refl h)
          ∙ sym (copied_in_lem ring o (xs ++ ys) lies_both i (rw (length-append xs ys) k))

      neither : length xs ≤ i → length xs + length ys ≤ i → get_or (copied_in half p ys) (wrap_offset n (o + i)) 0 ≡ get_or (copied_in ring o (xs ++ ys)) (wrap_offset n (o + i)) 0
      neither h k =
          (rw (on h) at (second_out (i - length xs) (omega arith) (omega arith)))
          ∙ copied_out ring o xs lies_first i h l
          ∙ sym (copied_out ring o (xs ++ ys) lies_both i (rw (length-append xs ys) k) l)

  pub copied-twice : copied_in half p ys ≡ copied_in ring o (xs ++ ys)
  copied-twice =
      same-round n o (copied_in half p ys) (copied_in ring o (xs ++ ys)) below (length-copied half p ys lies_second ∙ length-half) (length-copied ring o (xs ++ ys) lies_both) round

-- what is there already, copied in again, changes nothing
pub copied-same : (ring : List ℕ) (o size : ℕ) → o < length ring → size ≤ length ring → copied_in ring o (segment ring o size) ≡ ring
copied-same ring o size below fits =
    same-round (length ring) o (copied_in ring o (segment ring o size)) ring below (length-copied ring o (segment ring o size) lies) refl
    (λ i l. ⊎_elim (λ (h : i < size). inside i h) (λ (h : size ≤ i). outside i h l) (split i size))
  where
    at : LiesInRing ring o size
    at = record { starts = below; fits = fits }

    long : length (segment ring o size) ≡ size
    long = length-segment ring o size at

    lies : LiesInRing ring o (length (segment ring o size))
    lies = record { starts = below; fits = rw long fits }

    inside : (i : ℕ) → i < size → get_or (copied_in ring o (segment ring o size)) (wrap_offset (length ring) (o + i)) 0 ≡ get_or ring (wrap_offset (length ring) (o + i)) 0
    inside i h = copied_in_lem ring o (segment ring o size) lies i (rw long h) ∙ segment-byte ring o size at i h

    outside : (i : ℕ) → size ≤ i → i < length ring → get_or (copied_in ring o (segment ring o size)) (wrap_offset (length ring) (o + i)) 0 ≡ get_or ring (wrap_offset (length ring) (o + i)) 0
    outside i h l = copied_out ring o (segment ring o size) lies i (rw long h) l

-- a piece copied in behind `size` bytes is all of them and the piece, copied in at once
pub copied_behind : (ring : List ℕ) (o size : ℕ) (piece : List ℕ) → o < length ring → size + length piece ≤ length ring →
    copied_in ring (wrap_offset (length ring) (o + size)) piece ≡ copied_in ring o (segment ring o size ++ piece)
copied_behind ring o size piece below fits =
    let before : List ℕ = segment ring o size in
    let long : length before ≡ size = length-segment ring o size (record { starts = below; fits = omega arith }) in
    ap (λ (r : List ℕ). copied_in r (wrap_offset (length ring) (o + size)) piece) (sym (copied-same ring o size below (omega arith)))
    ∙ ap (λ (m : ℕ). copied_in (copied_in ring o before) (wrap_offset (length ring) (o + m)) piece) (sym long)
    ∙ copied-twice ring o before piece below (omega arith)
