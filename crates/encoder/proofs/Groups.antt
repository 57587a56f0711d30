-- The reading of a group whose words are all taken, and of the groups that write the registers of a bank, with the steps and without.
use mathlib.Core.Path.{◌≡◌, refl, sym, ap, ◌∙◌}
use mathlib.Core.Bool.{Bool, true, false}
use mathlib.Core.List.{List, [], ◌∷◌, ◌++◌}
use Prim.Native.Nat.{ℕ, zero, suc, ◌+◌, ◌*◌, ◌<◌}
use native.Mathlib.Omega.{arith}
use lib.Dec.{eqb}
use lib.ListN.{length, length-append}
use borrow.Author.Tests.{ne_eqb, le-ltb}
use Rattle.word.specs.Field.{field}
use Rattle.register.specs.Table.{register_kind_of, accepts_word, source_control_accepts, destination_control_accepts, output_control_accepts, size_accepts, stride_accepts, step_accepts, blending_accepts}
use Rattle.pixel.specs.declared.gradient.Steps.{Steps}
use Rattle.register.specs.Bank.{surface_after_write, steps_after_write, bank_after_write, write_register}
use Rattle.register.specs.Task.{task_of}
use Rattle.register.specs.declared.bank.Bank.{Bank}
use Rattle.std.specs.Prelude.{Option, Some, Ok}
use Rattle.register.specs.declared.table.RegisterKind.{RegisterKind}
use Rattle.task_check.specs.declared.task.Bounds.{Bounds}
use Rattle.task_check.specs.Rules.{check_task}
use Rattle.batch.specs.Batch.{between_tasks, in_group, reserved_bits, bad_group_length, after_task_check, decode_from}
use Rattle.encoder.specs.Words.{task_words, shaded_words}

-- the register at an offset takes a word
abbrev TakenAt : ℕ → ℕ → Type 0
TakenAt offset w = (b : Bank) → write_register b offset w ≡ Ok (bank_after_write b offset w)

taken_at : (offset w : ℕ) (kind : RegisterKind) → register_kind_of offset ≡ Some kind → accepts_word kind w ≡ true → TakenAt offset w
unfolding write_register
taken_at offset w kind e t b = rw (e, t)

-- so do the registers from an offset on, a word each
abbrev TakenFrom : ℕ → List ℕ → Type 0
TakenFrom offset [] = Unit
TakenFrom offset (w ∷ ws) = TakenAt offset w × TakenFrom (offset + 4) ws

-- the bank after words were written from an offset on
abbrev stored_from : Bank → ℕ → List ℕ → Bank
stored_from b offset [] = b
stored_from b offset (w ∷ ws) = stored_from (bank_after_write b offset w) (offset + 4) ws

-- the words of a group, from word k on
words-read : (bounds : Bounds) (b : Bank) (k offset : ℕ) (ends : Bool) (head : ℕ) (vs rest : List ℕ) → TakenFrom offset vs
    → decode_from bounds b k (in_group (length vs) offset ends head) (vs ++ rest)
    ≡ decode_from bounds (stored_from b offset vs) (k + length vs) (in_group zero (offset + 4 * length vs) ends head) rest
unfolding decode_from
words-read bounds b k offset ends head [] rest t =
    let e : k + 0 ≡ k = omega arith in
    let o : offset + 4 * 0 ≡ offset = omega arith in
    cc
words-read bounds b k offset ends head (v ∷ vs) rest t =
    let e : k + 1 + length vs ≡ k + suc (length vs) = omega arith in
    let o : offset + 4 + 4 * length vs ≡ offset + 4 * suc (length vs) = omega arith in
    rw (t.0 b) (words-read bounds (bank_after_write b offset v) (k + 1) (offset + 4) ends head vs rest t.1 ∙ (cc))

fine_length : (vs rest : List ℕ) → 0 < length vs → bad_group_length (length vs) (length (vs ++ rest)) ≡ false
fine_length vs rest h =
    let some = ne_eqb (length vs) 0 (λ e. omega arith) in
    let enough = le-ltb (length (vs ++ rest)) (length vs) (simp length-append (omega arith)) in
    rw (some, enough)

-- a group of these words, whose header is word k
group-read : (bounds : Bounds) (b : Bank) (k next h : ℕ) (vs rest : List ℕ) → reserved_bits h ≡ false → field 15 2 h ≡ length vs
    → 0 < length vs → next ≡ k + 1 + length vs → TakenFrom (field 31 16 h) vs
    → decode_from bounds b k between_tasks (h ∷ vs ++ rest)
    ≡ decode_from bounds (stored_from b (field 31 16 h) vs) next (in_group zero (field 31 16 h + 4 * length vs) (eqb (field 0 0 h) 1) k) rest
unfolding decode_from
group-read bounds b k next h vs rest e l s n t =
    rw (e, l, fine_length vs rest s, n) (words-read bounds b (k + 1) (field 31 16 h) (eqb (field 0 0 h) 1) k vs rest t)

-- a group that does not end the task, and another header after it
group-on : (bounds : Bounds) (b : Bank) (k next h : ℕ) (vs : List ℕ) (h' : ℕ) (ws : List ℕ) → reserved_bits h ≡ false → field 15 2 h ≡ length vs
    → 0 < length vs → next ≡ k + 1 + length vs → eqb (field 0 0 h) 1 ≡ false → TakenFrom (field 31 16 h) vs
    → decode_from bounds b k between_tasks (h ∷ vs ++ (h' ∷ ws)) ≡ decode_from bounds (stored_from b (field 31 16 h) vs) next between_tasks (h' ∷ ws)
unfolding decode_from
group-on bounds b k next h vs h' ws e l s n m t =
    group-read bounds b k next h vs (h' ∷ ws) e l s n t
    ∙ rw m (header (stored_from b (field 31 16 h) vs) (field 31 16 h + 4 * length vs))
  where
    header : (c : Bank) (offset : ℕ) → decode_from bounds c next (in_group zero offset false k) (h' ∷ ws) ≡ decode_from bounds c next between_tasks (h' ∷ ws)
    header c offset = refl

-- a group that ends the task
group-last : (bounds : Bounds) (b : Bank) (k next h : ℕ) (vs ws : List ℕ) → reserved_bits h ≡ false → field 15 2 h ≡ length vs
    → 0 < length vs → next ≡ k + 1 + length vs → eqb (field 0 0 h) 1 ≡ true → TakenFrom (field 31 16 h) vs → (after : Bank) → stored_from b (field 31 16 h) vs ≡ after
    → decode_from bounds b k between_tasks (h ∷ vs ++ ws) ≡ after_task_check (check_task bounds (task_of after)) after k (decode_from bounds after next between_tasks ws)
unfolding decode_from
group-last bounds b k next h vs ws e l s n m t after is =
    group-read bounds b k next h vs ws e l s n t ∙ rw (m, is) (ended ws)
  where
    ended : (rest : List ℕ)
        → decode_from bounds after next (in_group zero (field 31 16 h + 4 * length vs) true k) rest
        ≡ after_task_check (check_task bounds (task_of after)) after k (decode_from bounds after next between_tasks rest)
    ended [] = refl
    ended (w ∷ rest) = refl

-- each register of a bank but the steps holds a word that it takes
pub record AllTaken (b : Bank) : Type 0 where
  pub source : source_control_accepts b.source.control ≡ true
  pub source_size : size_accepts b.source.size ≡ true
  pub source_stride : stride_accepts b.source.stride ≡ true
  pub destination : destination_control_accepts b.destination.control ≡ true
  pub destination_size : size_accepts b.destination.size ≡ true
  pub destination_stride : stride_accepts b.destination.stride ≡ true
  pub output : output_control_accepts b.output.control ≡ true
  pub output_size : size_accepts b.output.size ≡ true
  pub output_stride : stride_accepts b.output.stride ≡ true
  pub blending : blending_accepts b.blending ≡ true

-- so do the steps
pub record StepsTaken (s : Steps) : Type 0 where
  pub alpha : step_accepts s.alpha ≡ true
  pub red : step_accepts s.red ≡ true
  pub green : step_accepts s.green ≡ true
  pub blue : step_accepts s.blue ≡ true

-- the words of the groups that have more than one
abbrev words1 : Bank → List ℕ
words1 b = b.source.control ∷ b.source.size ∷ b.source.stride ∷ b.colour ∷ b.source.address ∷ []

abbrev words2 : Bank → List ℕ
words2 b = b.destination.control ∷ b.destination.size ∷ b.destination.stride ∷ []

abbrev words5 : Bank → List ℕ
words5 b = b.output.control ∷ b.output.size ∷ b.output.stride ∷ []

abbrev step_words : Steps → List ℕ
step_words s = s.alpha ∷ s.red ∷ s.green ∷ s.blue ∷ []

steps-taken : (s : Steps) → StepsTaken s → TakenFrom 0x030 (step_words s)
unfolding register_kind_of
steps-taken s t = (
  taken_at 0x030 s.alpha _ refl t.alpha,
  (
    taken_at 0x034 s.red _ refl t.red,
    (
      taken_at 0x038 s.green _ refl t.green,
      (taken_at 0x03C s.blue _ refl t.blue, tt),
    ),
  ),
)

module _ (b : Bank) (t : AllTaken b) where
  -- the words of each group are taken
  first : TakenFrom 0x010 (words1 b)
  unfolding register_kind_of
  first = (
    taken_at 0x010 b.source.control _ refl t.source,
    (
      taken_at 0x014 b.source.size _ refl t.source_size,
      (
        taken_at 0x018 b.source.stride _ refl t.source_stride,
        (
          taken_at 0x01C b.colour _ refl refl,
          (taken_at 0x020 b.source.address _ refl refl, tt),
        ),
      ),
    ),
  )

  second : TakenFrom 0x050 (words2 b)
  unfolding register_kind_of
  second = (
    taken_at 0x050 b.destination.control _ refl t.destination,
    (
      taken_at 0x054 b.destination.size _ refl t.destination_size,
      (taken_at 0x058 b.destination.stride _ refl t.destination_stride, tt),
    ),
  )

  third : TakenFrom 0x060 (b.destination.address ∷ [])
  unfolding register_kind_of
  third = (taken_at 0x060 b.destination.address _ refl refl, tt)

  fourth : TakenFrom 0x090 (b.blending ∷ [])
  unfolding register_kind_of
  fourth = (taken_at 0x090 b.blending _ refl t.blending, tt)

  fifth : TakenFrom 0x100 (words5 b)
  unfolding register_kind_of
  fifth = (
    taken_at 0x100 b.output.control _ refl t.output,
    (
      taken_at 0x104 b.output.size _ refl t.output_size,
      (taken_at 0x108 b.output.stride _ refl t.output_stride, tt),
    ),
  )

  sixth : TakenFrom 0x110 (b.output.address ∷ [])
  unfolding register_kind_of
  sixth = (taken_at 0x110 b.output.address _ refl refl, tt)

-- the bank after the first group, and after each of the others but the last
abbrev after1 : Bank → Bank → Bank
after1 old b = stored_from old 0x010 (words1 b)

abbrev after2 : Bank → Bank → Bank
after2 c b = stored_from c 0x050 (words2 b)

abbrev after3 : Bank → Bank → Bank
after3 c b = stored_from (after2 c b) 0x060 (b.destination.address ∷ [])

abbrev after4 : Bank → Bank → Bank
after4 c b = stored_from (after3 c b) 0x090 (b.blending ∷ [])

abbrev after5 : Bank → Bank → Bank
after5 c b = stored_from (after4 c b) 0x100 (words5 b)

abbrev after6 : Bank → Bank → Bank
after6 c b = stored_from (after5 c b) 0x110 (b.output.address ∷ [])

-- what follows the header of the second group
abbrev from2 : Bank → List ℕ → List ℕ
from2 b rest =
    words2 b ++ (0x00600004 ∷ b.destination.address ∷ 0x00900004 ∷ b.blending ∷ 0x0100000C ∷ words5 b ++ (0x01100005 ∷ b.output.address ∷ rest))

-- the groups from the second on, read from a bank in which the others are written
rest_read : (bounds : Bounds) (c b : Bank) (k end next : ℕ) (rest : List ℕ) → AllTaken b → after6 c b ≡ b → end ≡ k + 12 → next ≡ k + 14
    → decode_from bounds c k between_tasks (0x0050000C ∷ from2 b rest) ≡ after_task_check (check_task bounds (task_of b)) b end (decode_from bounds b next between_tasks rest)
rest_read bounds c b k end next rest t is e n =
    let from6 : List ℕ = b.output.address ∷ rest in
    let from5 : List ℕ = words5 b ++ (0x01100005 ∷ from6) in
    let from4 : List ℕ = b.blending ∷ 0x0100000C ∷ from5 in
    let from3 : List ℕ = b.destination.address ∷ 0x00900004 ∷ from4 in
    group-on bounds c k (k + 4) 0x0050000C (words2 b) 0x00600004 from3 refl refl (omega arith) (omega arith) refl (second b t)
    ∙ group-on bounds (after2 c b) (k + 4) (k + 6) 0x00600004 (b.destination.address ∷ []) 0x00900004 from4 refl refl (omega arith) (omega arith) refl (third b t)
    ∙ group-on bounds (after3 c b) (k + 6) (k + 8) 0x00900004 (b.blending ∷ []) 0x0100000C from5 refl refl (omega arith) (omega arith) refl (fourth b t)
    ∙ group-on bounds (after4 c b) (k + 8) end 0x0100000C (words5 b) 0x01100005 from6 refl refl (omega arith) (omega arith) refl (fifth b t)
    ∙ group-last bounds (after5 c b) end next 0x01100005 (b.output.address ∷ []) rest refl refl (omega arith) (omega arith) refl (sixth b t) b is

-- the first form writes every register but the steps
abbrev keeping : Steps → Bank → Bank
keeping s b = record { source = b.source; destination = b.destination; output = b.output; colour = b.colour; steps = s; blending = b.blending }

first_stored : (old b : Bank) → after6 (after1 old b) b ≡ keeping old.steps b
unfolding bank_after_write surface_after_write steps_after_write
first_stored old b = refl

-- from any bank and any word on: one task, of which this bank is the registers, and then the rest
pub task-read : (bounds : Bounds) (old b : Bank) (k : ℕ) (rest : List ℕ) → AllTaken b → b.steps ≡ old.steps
    → decode_from bounds old k between_tasks (task_words b ++ rest) ≡ after_task_check (check_task bounds (task_of b)) b (k + 18) (decode_from bounds b (k + 20) between_tasks rest)
unfolding task_words
task-read bounds old b k rest t e =
    group-on bounds old k (k + 6) 0x00100014 (words1 b) 0x0050000C (from2 b rest) refl refl (omega arith) (omega arith) refl (first b t)
    ∙ rest_read bounds (after1 old b) b (k + 6) (k + 18) (k + 20) rest t
    (first_stored old b ∙ ap (λ (s : Steps). keeping s b) (sym e)) (omega arith) (omega arith)

-- the second form writes every register
abbrev after-steps : Bank → Bank → Bank
after-steps old b = stored_from (after1 old b) 0x030 (step_words b.steps)

all_stored : (old b : Bank) → after6 (after-steps old b) b ≡ b
unfolding bank_after_write surface_after_write steps_after_write
all_stored old b = refl

pub shaded_read : (bounds : Bounds) (old b : Bank) (k : ℕ) (rest : List ℕ) → AllTaken b → StepsTaken b.steps
    → decode_from bounds old k between_tasks (shaded_words b ++ rest) ≡ after_task_check (check_task bounds (task_of b)) b (k + 23) (decode_from bounds b (k + 25) between_tasks rest)
unfolding shaded_words
shaded_read bounds old b k rest t s =
    group-on bounds old k (k + 6) 0x00100014 (words1 b) 0x00300010 (step_words b.steps ++ (0x0050000C ∷ from2 b rest)) refl refl (omega arith) (omega arith) refl (first b t)
    ∙ group-on bounds (after1 old b) (k + 6) (k + 11) 0x00300010 (step_words b.steps) 0x0050000C (from2 b rest) refl refl (omega arith) (omega arith) refl (steps-taken b.steps s)
    ∙ rest_read bounds (after-steps old b) b (k + 11) (k + 23) (k + 25) rest t (all_stored old b) (omega arith) (omega arith)
