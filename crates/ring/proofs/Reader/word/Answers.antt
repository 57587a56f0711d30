use mathlib.Core.Path.{◌≡◌, sym, ap, ◌∙◌}
use Prim.Native.Nat.{ℕ, ◌+◌, ◌-◌, ◌*◌, ◌/◌, ◌<◌}
use native.Mathlib.Omega.{arith}
use lib.ListN.{length}
use Rattle.word.specs.Word.{le32_at}
use Rattle.std.specs.Prelude.{Some}
use Rattle.ring.specs.Segment.{LiesInRing, segment, batch_words}
use Rattle.ring.specs.Read.{read_word}
use Rattle.ring.proofs.Segment.{lies_word, count-words, word-whole, word-front, word_back}
use Rattle.ring.proofs.Reading.{read_past, read-batch}
use Rattle.ring.proofs.Reader.word.Goals.{Else-word_count-k}
use Rattle.ring.proofs.Reader.word.Goals as goal

-- past the first test the batch lies in the ring and word k in the batch
inside : (c : Else-word_count-k) → LiesInRing c.args.self.ring.now c.args.self.offset c.args.self.size
inside c =
    let a = c.args in
    lies_word a.self.ring.now a.self.offset a.self.size a.k (omega arith)

short : (c : Else-word_count-k) → c.args.k < c.args.self.size / 4
short c =
    let a = c.args in
    omega (arith, count-words a.self.ring.now a.self.offset a.self.size (inside c))

-- a word that stands there is the answer
answer : (c : Else-word_count-k) (word : ℕ) → let a = c.args in
    word ≡ le32_at (segment a.self.ring.now a.self.offset a.self.size) (4 * a.k) → Some word ≡ read_word (batch_words a.self.ring.now a.self.offset a.self.size) a.k
answer c word e =
    let a = c.args in
    ap Some e ∙ sym (read-batch a.self.ring.now a.self.offset a.self.size a.k (inside c) (short c))

pub returns-then-word_count-k : goal.returns-then-word_count-k
returns-then-word_count-k c =
    let a = c.args in
    sym (read_past (batch_words a.self.ring.now a.self.offset a.self.size) a.k (omega arith))

pub overflow_mul-i : goal.overflow_mul-i
overflow_mul-i c = omega (arith, inside (goal.at.overflow_mul-i c).Else-word_count-k, short (goal.at.overflow_mul-i c).Else-word_count-k)

pub overflow_sub-tail : goal.overflow_sub-tail
overflow_sub-tail c = omega (arith, inside (goal.at.overflow_sub-tail c).Else-word_count-k, short (goal.at.overflow_sub-tail c).Else-word_count-k)

pub overflow_add-i : goal.overflow_add-i
overflow_add-i c = omega (arith, inside (goal.at.overflow_add-i c).Else-word_count-k, short (goal.at.overflow_add-i c).Else-word_count-k)

pub overflow_add-offset : goal.overflow_add-offset
overflow_add-offset c = omega (arith, inside (goal.at.overflow_add-offset c).Else-word_count-k, short (goal.at.overflow_add-offset c).Else-word_count-k)

pub read_le32-requires : goal.read_le32-requires
read_le32-requires c = omega (arith, inside (goal.at.read_le32-requires c).Else-word_count-k, short (goal.at.read_le32-requires c).Else-word_count-k)

pub returns-then-i-tail : goal.returns-then-i-tail
returns-then-i-tail c =
    let a = c.args in
    let front = word-front a.self.ring.now a.self.offset a.self.size (inside (goal.at.returns-then-i-tail c).Else-word_count-k) (4 * a.k) (omega (arith, short (goal.at.returns-then-i-tail c).Else-word_count-k)) (omega (arith, inside (goal.at.returns-then-i-tail c).Else-word_count-k)) in
    answer (goal.at.returns-then-i-tail c).Else-word_count-k c.read_le32.result (c.read_le32.ensures ∙ sym front)

pub read_le32-requires-then-tail-i : goal.read_le32-requires-then-tail-i
read_le32-requires-then-tail-i c = omega (arith, inside (goal.at.read_le32-requires-then-tail-i c).Else-word_count-k, short (goal.at.read_le32-requires-then-tail-i c).Else-word_count-k)

pub returns-then-tail-i : goal.returns-then-tail-i
returns-then-tail-i c =
    let a = c.args in
    let n : ℕ = length a.self.ring.now in
    let e : a.self.offset + 4 * a.k - n ≡ 4 * a.k - (n - a.self.offset) = omega (arith, inside (goal.at.returns-then-tail-i c).Else-word_count-k) in
    let back = word_back a.self.ring.now a.self.offset a.self.size (inside (goal.at.returns-then-tail-i c).Else-word_count-k) (4 * a.k) (omega (arith, short (goal.at.returns-then-tail-i c).Else-word_count-k)) (omega (arith, inside (goal.at.returns-then-tail-i c).Else-word_count-k)) in
    answer (goal.at.returns-then-tail-i c).Else-word_count-k c.read_le32-then-tail-i.result (c.read_le32-then-tail-i.ensures ∙ sym (rw e at back))

pub byte_at-requires : goal.byte_at-requires
byte_at-requires c = ((inside (goal.at.byte_at-requires c).Else-word_count-k).starts, omega (arith, inside (goal.at.byte_at-requires c).Else-word_count-k, short (goal.at.byte_at-requires c).Else-word_count-k))

pub overflow_add-i-2 : goal.overflow_add-i-2
overflow_add-i-2 c = omega (arith, inside (goal.at.overflow_add-i-2 c).Else-word_count-k, short (goal.at.overflow_add-i-2 c).Else-word_count-k)

pub byte_at-requires-2 : goal.byte_at-requires-2
byte_at-requires-2 c = ((inside (goal.at.byte_at-requires-2 c).Else-word_count-k).starts, omega (arith, inside (goal.at.byte_at-requires-2 c).Else-word_count-k, short (goal.at.byte_at-requires-2 c).Else-word_count-k))

pub overflow_add-i-3 : goal.overflow_add-i-3
overflow_add-i-3 c = omega (arith, inside (goal.at.overflow_add-i-3 c).Else-word_count-k, short (goal.at.overflow_add-i-3 c).Else-word_count-k)

pub byte_at-requires-3 : goal.byte_at-requires-3
byte_at-requires-3 c = ((inside (goal.at.byte_at-requires-3 c).Else-word_count-k).starts, omega (arith, inside (goal.at.byte_at-requires-3 c).Else-word_count-k, short (goal.at.byte_at-requires-3 c).Else-word_count-k))

pub overflow_add-i-4 : goal.overflow_add-i-4
overflow_add-i-4 c =
    omega (arith, inside (goal.at.overflow_add-i-4 c).Else-word_count-k, short (goal.at.overflow_add-i-4 c).Else-word_count-k)

pub byte_at-requires-4 : goal.byte_at-requires-4
byte_at-requires-4 c =
    ((inside (goal.at.byte_at-requires-4 c).Else-word_count-k).starts, omega (arith, inside (goal.at.byte_at-requires-4 c).Else-word_count-k, short (goal.at.byte_at-requires-4 c).Else-word_count-k))

pub returns : goal.returns
unfolding le32_at
returns c =
    let a = c.args in
    answer (goal.at.returns c).Else-word_count-k c.join_le32.result (cc (word-whole a.self.ring.now a.self.offset a.self.size (inside (goal.at.returns c).Else-word_count-k) (4 * a.k) (omega (arith, short (goal.at.returns c).Else-word_count-k))))
