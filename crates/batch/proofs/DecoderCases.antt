-- A step from word k on: a law for each way that the walk can go.
use Prim.Native.Nat.{ℕ, zero, suc, ◌+◌, ◌-◌, ◌*◌, ◌<◌, ◌≤◌}
use mathlib.Core.Path.{◌≡◌, refl, sym, ap, ◌∙◌}
use mathlib.Core.Logic.{⊎_elim}
use mathlib.Core.Bool.{Bool, true, false}
use mathlib.Core.List.{List, [], ◌∷◌}
use native.Mathlib.Omega.{arith}
use native.Mathlib.Numerals.{add-one, sub-one}
use lib.ListN.{length, get_or, drop, length-drop, drop_of_length-le, get_or-eq_default}
use lib.Seq.{drop-cons}
use Rattle.word.specs.Field.{field}
use Rattle.word.proofs.Tests.{split}
use Rattle.std.specs.Prelude.{None, Ok, Err}
use Rattle.std.specs.Prelude.{unwrap_or}
use Rattle.ring.specs.Read.{read_word}
use Rattle.ring.proofs.Reading.{read_in, read_past}
use Rattle.ring.specs.Segment.{lies_in_ring, batch_words}
use Rattle.ring.proofs.Segment.{lies_in, no_words, count-words}
use Rattle.register.specs.Bank.{write_register}
use Rattle.register.specs.Task.{task_of}
use Rattle.register.specs.declared.bank.Bank.{Bank}
use Rattle.register.specs.declared.bank.WriteFault.{WriteFault}
use Rattle.task_check.specs.declared.fault.Fault.TheVariants.{ReservedBits, GroupLength, OpenTask}
use Rattle.task_check.specs.declared.task.Bounds.{Bounds}
use Rattle.task_check.specs.Faults.{write_fault}
use Rattle.task_check.specs.Rules.{check_task}
use Rattle.batch.specs.Batch.{in_group, reserved_bits, bad_group_length, group_of}
use Rattle.batch.specs.Walk.{stopped, step_after_check, step_header, step_write, step_from, step_at}

-- the words of a batch are no more than its bytes
pub words_fit : (ring : List ℕ) (offset size : ℕ) → 4 * length (batch_words ring offset size) ≤ size
words_fit ring offset size = go (lies_in_ring ring offset size) refl
  where
    go : (t : Bool) → lies_in_ring ring offset size ≡ t → 4 * length (batch_words ring offset size) ≤ size
    go true e = omega (arith, count-words ring offset size (lies_in ring offset size e))
    go false e = omega (arith, ap length (no_words ring offset size e))

-- what the reader says of word k, as an element of the list
pub word_or_zero : (ws : List ℕ) (k : ℕ) → unwrap_or (read_word ws k) 0 ≡ get_or ws k 0
word_or_zero ws k =
    ⊎_elim (λ (h : k < length ws). rw (read_in ws k h)) (λ (h : length ws ≤ k). rw (read_past ws k h) (sym (get_or-eq_default ws 0 h))) (split k (length ws))

-- `drop-cons` at the code's k + 1
pub drop_at : (ws : List ℕ) (k : ℕ) → k < length ws → drop k ws ≡ get_or ws k 0 ∷ drop (k + 1) ws
drop_at ws k h = rw (add-one, drop-cons ws k 0)

module _ (bounds : Bounds) (ws : List ℕ) (b : Bank) (k : ℕ) where
  pub past : length ws ≤ k → step_at bounds ws b k ≡ Ok None
  unfolding step_from
  past h = rw (drop_of_length-le ws h)

  header : k < length ws → step_at bounds ws b k ≡ step_header b k (get_or ws k 0) (length ws - (k + 1)) (λ p. step_from bounds b (k + 1) p (drop (k + 1) ws))
  unfolding step_from
  header h = rw (drop_at ws k h, length-drop)

  -- a group that does not end the task is followed by the next header, or by nothing
  pub next-group : (offset head : ℕ) → k < length ws → step_from bounds b k (in_group zero offset false head) (drop k ws) ≡ step_at bounds ws b k
  unfolding step_from
  next-group offset head h = rw (drop_at ws k h)

  pub open_task : (offset head : ℕ) → length ws ≤ k → step_from bounds b k (in_group zero offset false head) (drop k ws) ≡ Err (stopped OpenTask (4 * head) b)
  unfolding step_from
  open_task offset head h = rw (drop_of_length-le ws h)

  word : (n offset : ℕ) (ends : Bool) (head : ℕ) → k < length ws
      → step_from bounds b k (in_group (suc n) offset ends head) (drop k ws)
      ≡ step_write b k (write_register b offset (get_or ws k 0)) (λ next. step_from bounds next (k + 1) (in_group n (offset + 4) ends head) (drop (k + 1) ws))
  unfolding step_from
  word n offset ends head h = rw (drop_at ws k h)

-- a group that ends the task
ended_at : (bounds : Bounds) (ws : List ℕ) (b : Bank) (k offset head : ℕ)
    → step_from bounds b k (in_group zero offset true head) ws ≡ step_after_check (check_task bounds (task_of b)) b k (4 * head)
unfolding step_from
ended_at bounds [] b k offset head = refl
ended_at bounds (w ∷ ws) b k offset head = refl

pub ended : (bounds : Bounds) (ws : List ℕ) (b : Bank) (k offset head : ℕ)
    → step_from bounds b k (in_group zero offset true head) (drop k ws) ≡ step_after_check (check_task bounds (task_of b)) b k (4 * head)
ended bounds ws b k offset head = ended_at bounds (drop k ws) b k offset head

-- where the word at k is w
module _ (bounds : Bounds) (ws : List ℕ) (b : Bank) (k w : ℕ) (within : k < length ws) (is : w ≡ get_or ws k 0) where
  pub reserved : reserved_bits w ≡ true → step_at bounds ws b k ≡ Err (stopped ReservedBits (4 * k) b)
  reserved e = header bounds ws b k within ∙ rw (← is) (simp e)

  pub bad-length : reserved_bits w ≡ false → bad_group_length (field 15 2 w) (length ws - (k + 1)) ≡ true → step_at bounds ws b k ≡ Err (stopped GroupLength (4 * k) b)
  bad-length e l = header bounds ws b k within ∙ rw (← is) (simp (e, l))

  pub open_group : reserved_bits w ≡ false → bad_group_length (field 15 2 w) (length ws - (k + 1)) ≡ false
      → step_at bounds ws b k ≡ step_from bounds b (k + 1) (group_of k w) (drop (k + 1) ws)
  open_group e l = header bounds ws b k within ∙ rw (← is) (simp (e, l))

  pub refused : (left offset : ℕ) (ends : Bool) (head : ℕ) (f : WriteFault) → 0 < left → write_register b offset w ≡ Err f
      → step_from bounds b k (in_group left offset ends head) (drop k ws) ≡ Err (stopped (write_fault f) (4 * k) b)
  refused zero offset ends head f z e = absurd (omega arith)
  refused (suc n) offset ends head f z e = word bounds ws b k n offset ends head within ∙ rw (← is, e)

  pub taken : (left offset : ℕ) (ends : Bool) (head : ℕ) (next : Bank) → 0 < left → write_register b offset w ≡ Ok next
      → step_from bounds b k (in_group left offset ends head) (drop k ws) ≡ step_from bounds next (k + 1) (in_group (left - 1) (offset + 4) ends head) (drop (k + 1) ws)
  taken zero offset ends head next z e = absurd (omega arith)
  taken (suc n) offset ends head next z e = word bounds ws b k n offset ends head within ∙ rw (← is, e, sub-one)

-- word i of a group of `count` words, the first of which is word `first`, is taken
pub taken-next : (bounds : Bounds) (ws : List ℕ) (b : Bank) (first i w : ℕ) → first + i < length ws → w ≡ get_or ws (first + i) 0
    → (count register : ℕ) (ends : Bool) (head : ℕ) (next : Bank) → i < count → write_register b (register + 4 * i) w ≡ Ok next
    → step_from bounds b (first + i) (in_group (count - i) (register + 4 * i) ends head) (drop (first + i) ws)
    ≡ step_from bounds next (first + (i + 1)) (in_group (count - (i + 1)) (register + 4 * (i + 1)) ends head) (drop (first + (i + 1)) ws)
taken-next bounds ws b first i w within is count register ends head next less e =
    let k : first + i + 1 ≡ first + (i + 1) = omega arith in
    let l : count - i - 1 ≡ count - (i + 1) = omega arith in
    let r : register + 4 * i + 4 ≡ register + 4 * (i + 1) = omega arith in
    taken bounds ws b (first + i) w within is (count - i) (register + 4 * i) ends head next (omega arith) e ∙ cc

-- all of them are
pub all_taken : (bounds : Bounds) (ws : List ℕ) (b : Bank) (first i count register : ℕ) (ends : Bool) (head : ℕ) → i ≡ count
    → step_from bounds b (first + i) (in_group (count - i) (register + 4 * i) ends head) (drop (first + i) ws)
    ≡ step_from bounds b (first + count) (in_group zero (register + 4 * count) ends head) (drop (first + count) ws)
all_taken bounds ws b first i count register ends head e =
    let z : count - i ≡ 0 = omega arith in
    cc
