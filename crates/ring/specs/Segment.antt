-- One batch in the ring (01, "Engine, desks, queue"; 000, "CMD Buf Valid Length"). It may lie in two parts.
use Rattle.std.specs.Prelude.{ℕ, ◌-◌, ◌≤◌, ◌<◌, List, [], ◌++◌, Bool, cond, ◌&&◌, length, take, drop, leb, ltb}
use Rattle.word.specs.Word.{words}

-- the batch of `size` bytes that starts at `offset`: it goes on at byte 0 after the ring's last byte
unfoldable pub segment : List ℕ → ℕ → ℕ → List ℕ
segment ring offset size = take size (drop offset ring ++ take offset ring)

-- Internal: such a batch lies in the ring: it starts at one of the ring's bytes and is no longer than the ring
pub record LiesInRing (ring : List ℕ) (offset size : ℕ) : Type 0 where
  pub starts : offset < length ring
  pub fits : size ≤ length ring

-- the same as a test
abbrev pub lies_in_ring : List ℕ → ℕ → ℕ → Bool
lies_in_ring ring offset size = ltb offset (length ring) && leb size (length ring)

-- its words, in order; what does not lie in the ring has none
unfoldable pub batch_words : List ℕ → ℕ → ℕ → List ℕ
batch_words ring offset size = cond (lies_in_ring ring offset size) (words (segment ring offset size)) []

-- an offset that may have run over the end of a ring of n bytes by less than n: it goes on at byte 0 after the last byte
unfoldable pub wrap_offset : ℕ → ℕ → ℕ
wrap_offset n x = cond (ltb x n) x (x - n)
