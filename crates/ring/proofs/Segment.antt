-- Laws of one batch in the ring: its length, its bytes, its words.
use mathlib.Core.Path.{◌≡◌, refl, sym, ap, ◌∙◌}
use mathlib.Core.List.{List, [], ◌++◌}
use mathlib.Core.Bool.{Bool, true, false}
use mathlib.Core.Logic.{⊎_elim}
use Prim.Native.Nat.{ℕ, ◌+◌, ◌-◌, ◌*◌, ◌/◌, ◌≤◌, ◌<◌}
use native.Mathlib.Omega.{arith}
use lib.ListN.{length, take, drop, get_or, length-append, length-take, length-drop, get_or-append}
use lib.Seq.{get_or-take, get_or-drop}
use lib.Dec.{ltb, leb}
use borrow.Author.Tests.{ltb-true, leb-true, lt-ltb, le-leb}
use Rattle.word.specs.Word.{words, le32_at}
use Rattle.word.proofs.Words.{length-words, get_or-words}
use Rattle.word.proofs.Splice.{get_or_right}
use Rattle.word.proofs.Tests.{split, and-true}
use Rattle.ring.specs.Segment.{segment, LiesInRing, lies_in_ring, batch_words, wrap_offset}
use Rattle.ring.proofs.Wrapped.{wrapped_in, wrapped_over, wrapped_below}

-- a batch that starts u bytes on from `read`
pub lies_wrapped : (ring : List ℕ) (read u size : ℕ) → read < length ring → u + size ≤ length ring → LiesInRing ring (wrap_offset (length ring) (read + u)) size
lies_wrapped ring read u size below h =
    record { starts = wrapped_below (length ring) (read + u) (omega arith); fits = omega arith }

pub length-segment : (ring : List ℕ) (offset size : ℕ) → LiesInRing ring offset size → length (segment ring offset size) ≡ size
unfolding segment
length-segment ring offset size at = simp (length-take, length-append, length-drop) (omega arith)

module _ (ring : List ℕ) (offset size : ℕ) (at : LiesInRing ring offset size) where
  -- a byte before the ring's end
  pub segment-front : (i : ℕ) → i < size → offset + i < length ring → get_or (segment ring offset size) i 0 ≡ get_or ring (offset + i) 0
  unfolding segment
  segment-front i h k =
      get_or-take size (drop offset ring ++ take offset ring) i 0 h
      ∙ get_or-append (drop offset ring) (take offset ring) 0 i (simp length-drop (omega arith))
      ∙ get_or-drop offset ring i 0

  -- a byte past it
  pub segment-back : (i : ℕ) → i < size → length ring ≤ offset + i → get_or (segment ring offset size) i 0 ≡ get_or ring (offset + i - length ring) 0
  unfolding segment
  segment-back i h k =
      let j : i - (length ring - offset) ≡ offset + i - length ring = omega arith in
      get_or-take size (drop offset ring ++ take offset ring) i 0 h
      ∙ get_or_right (drop offset ring) (take offset ring) (length ring - offset) i (length-drop offset ring) (omega arith)
      ∙ get_or-take offset ring (i - (length ring - offset)) 0 (omega arith)
      ∙ ap (λ (m : ℕ). get_or ring m 0) j

  -- any byte
  pub segment-byte : (i : ℕ) → i < size → get_or (segment ring offset size) i 0 ≡ get_or ring (wrap_offset (length ring) (offset + i)) 0
  segment-byte i h = ⊎_elim inside over (split (offset + i) (length ring))
    where
      inside : offset + i < length ring → get_or (segment ring offset size) i 0 ≡ get_or ring (wrap_offset (length ring) (offset + i)) 0
      inside p = rw (wrapped_in (length ring) (offset + i) p) (segment-front i h p)

      over : length ring ≤ offset + i → get_or (segment ring offset size) i 0 ≡ get_or ring (wrap_offset (length ring) (offset + i)) 0
      over p = rw (wrapped_over (length ring) (offset + i) p) (segment-back i h p)

  -- the same as seen in a batch as long as the ring
  pub segment-whole : (i : ℕ) → i < size → get_or (segment ring offset (length ring)) i 0 ≡ get_or (segment ring offset size) i 0
  unfolding segment
  segment-whole i h =
      get_or-take (length ring) (drop offset ring ++ take offset ring) i 0 (omega arith) ∙ sym (get_or-take size (drop offset ring ++ take offset ring) i 0 h)

  pub word-whole : (i : ℕ) → i + 4 ≤ size → le32_at (segment ring offset (length ring)) i ≡ le32_at (segment ring offset size) i
  unfolding le32_at
  word-whole i h =
      rw (segment-whole i (omega arith), segment-whole (i + 1) (omega arith), segment-whole (i + 2) (omega arith), segment-whole (i + 3) (omega arith))

  -- four bytes before the ring's end
  pub word-front : (i : ℕ) → i + 4 ≤ size → offset + i + 4 ≤ length ring → le32_at (segment ring offset size) i ≡ le32_at ring (offset + i)
  unfolding le32_at
  word-front i h k =
      let e1 : offset + (i + 1) ≡ offset + i + 1 = omega arith in
      let e2 : offset + (i + 2) ≡ offset + i + 2 = omega arith in
      let e3 : offset + (i + 3) ≡ offset + i + 3 = omega arith in
      rw (
        segment-front i (omega arith) (omega arith),
        segment-front (i + 1) (omega arith) (omega arith),
        segment-front (i + 2) (omega arith) (omega arith),
        segment-front (i + 3) (omega arith) (omega arith),
        e1,
        e2,
        e3,
      )

  -- four bytes past it
  pub word_back : (i : ℕ) → i + 4 ≤ size → length ring ≤ offset + i → le32_at (segment ring offset size) i ≡ le32_at ring (offset + i - length ring)
  unfolding le32_at
  word_back i h k =
      let e1 : offset + (i + 1) - length ring ≡ offset + i - length ring + 1 = omega arith in
      let e2 : offset + (i + 2) - length ring ≡ offset + i - length ring + 2 = omega arith in
      let e3 : offset + (i + 3) - length ring ≡ offset + i - length ring + 3 = omega arith in
      rw (
        segment-back i (omega arith) (omega arith),
        segment-back (i + 1) (omega arith) (omega arith),
        segment-back (i + 2) (omega arith) (omega arith),
        segment-back (i + 3) (omega arith) (omega arith),
        e1,
        e2,
        e3,
      )

  -- the test holds, so the batch has its words
  pub lies_true : lies_in_ring ring offset size ≡ true
  lies_true = rw (lt-ltb offset (length ring) at.starts, le-leb size (length ring) at.fits)

  pub batch-words : batch_words ring offset size ≡ words (segment ring offset size)
  unfolding batch_words
  batch-words = rw lies_true

  -- a quarter as many words as bytes
  pub count-words : length (batch_words ring offset size) ≡ size / 4
  count-words =
      ap length batch-words ∙ length-words (segment ring offset size) ∙ ap (λ (n : ℕ). n / 4) (length-segment ring offset size at)

  -- word k stands at byte 4 * k
  pub get_or-batch : (k : ℕ) → k < size / 4 → get_or (batch_words ring offset size) k 0 ≡ le32_at (segment ring offset size) (4 * k)
  get_or-batch k h =
      ap (λ (ws : List ℕ). get_or ws k 0) batch-words
      ∙ get_or-words k (segment ring offset size) (rw (length-segment ring offset size at) h)

-- the test says what the record says
pub lies_in : (ring : List ℕ) (offset size : ℕ) → lies_in_ring ring offset size ≡ true → LiesInRing ring offset size
lies_in ring offset size e =
    let both = and-true (ltb offset (length ring)) (leb size (length ring)) e in
    record { starts = ltb-true offset (length ring) both.0; fits = leb-true size (length ring) both.1 }

-- what does not lie in the ring has no words
pub no_words : (ring : List ℕ) (offset size : ℕ) → lies_in_ring ring offset size ≡ false → batch_words ring offset size ≡ []
unfolding batch_words
no_words ring offset size e = rw e

-- so what has a word lies in the ring
pub lies_word : (ring : List ℕ) (offset size k : ℕ) → k < length (batch_words ring offset size) → LiesInRing ring offset size
lies_word ring offset size k h = go (lies_in_ring ring offset size) refl
  where
    go : (t : Bool) → lies_in_ring ring offset size ≡ t → LiesInRing ring offset size
    go true e = lies_in ring offset size e
    go false e = absurd (omega (arith, ap length (no_words ring offset size e)))
