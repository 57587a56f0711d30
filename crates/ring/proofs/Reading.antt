-- Laws of the answer of a reader: a word of a batch, or that there is none.
use mathlib.Core.Path.{◌≡◌, ap, ◌∙◌}
use mathlib.Core.List.{List}
use Prim.Native.Nat.{ℕ, ◌*◌, ◌/◌, ◌≤◌, ◌<◌}
use lib.ListN.{length, get_or}
use borrow.Author.Tests.{lt-ltb, le-ltb}
use Rattle.word.specs.Word.{le32_at}
use Rattle.std.specs.Prelude.{Some, None}
use Rattle.ring.specs.Segment.{segment, LiesInRing, batch_words}
use Rattle.ring.specs.Read.{read_word}
use Rattle.ring.proofs.Segment.{count-words, get_or-batch}

-- there is no word past the last
pub read_past : (words : List ℕ) (k : ℕ) → length words ≤ k → read_word words k ≡ None
read_past words k h = rw (le-ltb k (length words) h)

pub read_in : (words : List ℕ) (k : ℕ) → k < length words → read_word words k ≡ Some (get_or words k 0)
read_in words k h = rw (lt-ltb k (length words) h)

-- word k of a batch stands at its byte 4 * k
pub read-batch : (ring : List ℕ) (offset size k : ℕ) → LiesInRing ring offset size → k < size / 4
    → read_word (batch_words ring offset size) k ≡ Some (le32_at (segment ring offset size) (4 * k))
read-batch ring offset size k at h =
    read_in (batch_words ring offset size) k (rw (count-words ring offset size at) h) ∙ ap Some (get_or-batch ring offset size at k h)
