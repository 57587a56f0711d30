-- The tasks of a reading, whatever its ending: each of them is sound, there are at most half as many as words, and in a finished
-- reading they are as many as the task-end marks.
use Prim.Native.Nat.{ℕ, zero, suc, ◌+◌, ◌*◌, ◌<◌, ◌≤◌, ◌%◌}
use mathlib.Core.Path.{◌≡◌, refl, ap, subst, ◌∙◌}
use mathlib.Core.Bool.{true, false, cond}
use mathlib.Core.List.{List, [], ◌∷◌}
use native.Mathlib.Omega.{arith}
use lib.Dec.{eqb, ltb}
use lib.ListN.{length, drop}
use borrow.Author.Tests.{eqb-false, ltb-false}
use Rattle.word.specs.Field.{field}
use Rattle.std.specs.Prelude.{Some, Result, Ok, ⊤}
use Rattle.word.proofs.Tests.{or_false}
use Rattle.ring.specs.Segment.{batch_words}
use Rattle.register.specs.Bank.{write_register}
use Rattle.register.specs.Task.{task_of}
use Rattle.register.specs.declared.bank.Bank.{Bank}
use Rattle.register.specs.declared.task.Task.{Task}
use Rattle.task_check.specs.declared.fault.Fault.{Fault}
use Rattle.task_check.specs.declared.fault.Fault.TheVariants.{ReservedBits, GroupLength, OpenTask, NotWritable, Forbidden, BadSurface, SizeMismatch, OutOfBounds, Overlap}
use Rattle.task_check.specs.declared.task.Bounds.{Bounds}
use Rattle.task_check.specs.Faults.{fault_status}
use Rattle.task_check.specs.Rules.{check_task}
use Rattle.task_check.proofs.Sound.{Sound, AllSound}
use Rattle.task_check.proofs.Passes.{passes}
use Rattle.batch.specs.Batch.{DecodedBatch, BatchEnd, finished, faulty, stop_with, DecoderState, between_tasks, in_group, bad_group_length, decode_header, after_task_check, group_of, decode_from, decode_batch, without_fault, verdict_after, verdict_of, status_word_of, tasks_drawn}
use Rattle.batch.specs.Marks.{task_end_count_from, task_end_count}
use Rattle.batch.specs.declared.walk.BatchTasks.{BatchTasks}
use Rattle.batch.specs.declared.walk.TaskRead.{TaskRead}
use Rattle.batch.specs.Walk.{WalkStep, decode_after_step, step_at, tasks_left, GivesTask}
use Rattle.batch.proofs.Simulates.{simulates}
use Rattle.batch.proofs.DecoderCases.{words_fit}
use Rattle.batch.proofs.Steps.{faultless-finished}
use Rattle.batch.proofs.Readings.{on_from, on_with, opened-all, wrote-all, judged-all}

-- ---- each task is sound

module _ (bounds : Bounds) where
  abbrev Good : DecodedBatch → Type 0
  Good r = AllSound bounds r.tasks

  good_open : (b : Bank) (k h follow : ℕ) (go : DecoderState → DecodedBatch) → Good (go (group_of k h)) → Good (decode_header b k h follow go)
  good_open b k h follow go on = opened-all Good b k (λ f. tt) h follow go (λ l. on)

  good-judged : (b : Bank) (head : ℕ) (after : DecodedBatch) → Good after → Good (after_task_check (check_task bounds (task_of b)) b head after)
  good-judged b head after on = judged-all Good b head (λ f. tt) (check_task bounds (task_of b)) after (λ e. (passes bounds (task_of b) e, on))

  good-from : (b : Bank) (k : ℕ) (position : DecoderState) (ws : List ℕ) → Good (decode_from bounds b k position ws)
  unfolding decode_from
  good-from b k between_tasks [] = tt
  good-from b k between_tasks (h ∷ ws) = good_open b k h (length ws) (on_from bounds b k ws) (good-from b (k + 1) (group_of k h) ws)
  good-from b k (in_group (suc n) offset ends head) [] = tt
  good-from b k (in_group (suc n) offset ends head) (w ∷ ws) =
      wrote-all Good b k (λ f. tt) (write_register b offset w) (on_with bounds k (in_group n (offset + 4) ends head) ws) (λ next. good-from next (k + 1) (in_group n (offset + 4) ends head) ws)
  good-from b k (in_group zero offset false head) [] = tt
  good-from b k (in_group zero offset false head) (h ∷ ws) = good_open b k h (length ws) (on_from bounds b k ws) (good-from b (k + 1) (group_of k h) ws)
  good-from b k (in_group zero offset true head) [] = good-judged b head (stop_with b finished) tt
  good-from b k (in_group zero offset true head) (h ∷ ws) =
      good-judged b head (decode_header b k h (length ws) (on_from bounds b k ws)) (good_open b k h (length ws) (on_from bounds b k ws) (good-from b (k + 1) (group_of k h) ws))

  -- before a fault too: each task that is drawn
  pub drawn-sound : (bank : Bank) (ws : List ℕ) → AllSound bounds (tasks_drawn (decode_batch bounds bank ws))
  drawn-sound bank ws = good-from bank 0 between_tasks ws

  -- and so is the task that a step hands out
  pub step-sound : (ws : List ℕ) (b : Bank) (k : ℕ) (s : WalkStep) → s ≡ step_at bounds ws b k → (read : TaskRead) → s ≡ Ok (Some read) → Sound bounds read.task
  step-sound ws b k s is read e = (rw ((simulates bounds ws b k s is).same_decoding ∙ ap (decode_after_step bounds ws b) e) at (good-from b k between_tasks (drop k ws))).0

  -- and so are the task that is given and those that are left
  pub given-sound : (old new : BatchTasks) (task : Task) → GivesTask old (Some task) new → AllSound bounds (tasks_left old) → Sound bounds task × AllSound bounds (tasks_left new)
  given-sound old new task g s = subst Good g.0 s

-- ---- at most half as many tasks as words

-- a group has a word at least, and no more than follow
some : (count follow : ℕ) → bad_group_length count follow ≡ false → (0 < count) × (count ≤ follow)
some zero follow e = absurd (eqb-false 0 0 (or_false (eqb 0 0) (ltb follow 0) e).0 refl)
some (suc n) follow e = (omega arith, ltb-false follow (suc n) (or_false (eqb (suc n) 0) (ltb follow (suc n)) e).1)

abbrev Few : DecoderState → List ℕ → DecodedBatch → Type 0
Few between_tasks ws r = 2 * length r.tasks ≤ length ws
Few (in_group left offset ends head) ws r = left ≤ length ws → 2 * length r.tasks + left ≤ length ws + 2

few_open : (b : Bank) (k h : ℕ) (ws : List ℕ) (go : DecoderState → DecodedBatch) → Few (group_of k h) ws (go (group_of k h)) → 2 * length (decode_header b k h (length ws) go).tasks ≤ length (h ∷ ws)
few_open b k h ws go on =
    opened-all (λ r. 2 * length r.tasks ≤ length (h ∷ ws)) b k (λ f. omega arith) h (length ws) go
    (λ l. let c = some (field 15 2 h) (length ws) l in omega (arith, on c.1))

few-judged : (b : Bank) (check : Result ⊤ Fault) (head : ℕ) (after : DecodedBatch) (n : ℕ) → 2 * length after.tasks ≤ n → 2 * length (after_task_check check b head after).tasks + 0 ≤ n + 2
few-judged b check head after n on =
    judged-all (λ r. 2 * length r.tasks + 0 ≤ n + 2) b head (λ f. omega arith) check after (λ e. omega arith)

few-from : (bounds : Bounds) (b : Bank) (k : ℕ) (position : DecoderState) (ws : List ℕ) → Few position ws (decode_from bounds b k position ws)
unfolding decode_from
few-from bounds b k between_tasks [] = omega arith
few-from bounds b k between_tasks (h ∷ ws) = few_open b k h ws (on_from bounds b k ws) (few-from bounds b (k + 1) (group_of k h) ws)
few-from bounds b k (in_group (suc n) offset ends head) [] = λ z. absurd (omega arith)
few-from bounds b k (in_group (suc n) offset ends head) (w ∷ ws) =
    λ z. wrote-all (λ r. 2 * length r.tasks + suc n ≤ length (w ∷ ws) + 2) b k (λ f. omega arith) (write_register b offset w) (on_with bounds k (in_group n (offset + 4) ends head) ws)
    (λ next. let on = few-from bounds next (k + 1) (in_group n (offset + 4) ends head) ws (omega arith) in omega (arith, on))
few-from bounds b k (in_group zero offset false head) [] = λ z. omega arith
few-from bounds b k (in_group zero offset false head) (h ∷ ws) =
    λ z. omega (arith, few_open b k h ws (on_from bounds b k ws) (few-from bounds b (k + 1) (group_of k h) ws))
few-from bounds b k (in_group zero offset true head) [] = λ z. few-judged b (check_task bounds (task_of b)) head (stop_with b finished) 0 (omega arith)
few-from bounds b k (in_group zero offset true head) (h ∷ ws) =
    λ z. few-judged b (check_task bounds (task_of b)) head (decode_header b k h (length ws) (on_from bounds b k ws)) (length (h ∷ ws)) (few_open b k h ws (on_from bounds b k ws) (few-from bounds b (k + 1) (group_of k h) ws))

pub tasks-few : (bounds : Bounds) (bank : Bank) (ws : List ℕ) → 2 * length (decode_batch bounds bank ws).tasks ≤ length ws
tasks-few bounds bank ws = few-from bounds bank 0 between_tasks ws

pub fault-small : (f : Fault) → fault_status f ≤ 65535
fault-small ReservedBits = omega arith
fault-small GroupLength = omega arith
fault-small OpenTask = omega arith
fault-small NotWritable = omega arith
fault-small Forbidden = omega arith
fault-small BadSurface = omega arith
fault-small SizeMismatch = omega arith
fault-small OutOfBounds = omega arith
fault-small Overlap = omega arith

-- the status word of 32 bits: a number of tasks in the upper half, and what goes into the lower
pub tasks-rest : (n low : ℕ) → low ≤ 65535 → n % 65536 * 65536 + low ≡ (n * 65536 + low) % 4294967296
tasks-rest n low h = omega arith

-- so the status word of a batch of up to 524,280 bytes fits in 32 bits
pub status-fits : (bounds : Bounds) (bank : Bank) (ring : List ℕ) (offset size : ℕ) → size ≤ 524280
    → status_word_of (verdict_of (decode_batch bounds bank (batch_words ring offset size))) ≤ 4294967295
status-fits bounds bank ring offset size small =
    go (decode_batch bounds bank (batch_words ring offset size)) (omega (arith, tasks-few bounds bank (batch_words ring offset size), words_fit ring offset size))
  where
    by : (n : ℕ) (e : BatchEnd) → n ≤ 65535 → status_word_of (verdict_after n e) ≤ 4294967295
    by n finished h = omega arith
    by n (faulty f o) h = omega (arith, fault-small f)

    go : (r : DecodedBatch) → length r.tasks ≤ 65535 → status_word_of (verdict_of r) ≤ 4294967295
    go r h = by (length r.tasks) r.ending h

-- ---- as many tasks as marks

abbrev Met : DecoderState → List ℕ → DecodedBatch → Type 0
Met between_tasks ws r = r.ending ≡ finished → length r.tasks ≡ task_end_count_from 0 ws
Met (in_group left offset ends head) ws r = r.ending ≡ finished → length r.tasks ≡ cond ends 1 0 + task_end_count_from left ws

stopped : {A : Type 0} {f : Fault} {o : ℕ} → faulty f o ≡ finished → A
stopped e = absurd (let z : ◌≡◌ {A = ℕ} 0 1 = cc in omega arith)

met_open : (b : Bank) (k h : ℕ) (ws : List ℕ) (go : DecoderState → DecodedBatch) → Met (group_of k h) ws (go (group_of k h)) → Met between_tasks (h ∷ ws) (decode_header b k h (length ws) go)
unfolding task_end_count_from
met_open b k h ws go on = opened-all (Met between_tasks (h ∷ ws)) b k (λ f e. stopped e) h (length ws) go (λ l. on)

met_judged : (b : Bank) (check : Result ⊤ Fault) (head : ℕ) (after : DecodedBatch) (ws : List ℕ) → Met between_tasks ws after → (offset : ℕ) → Met (in_group 0 offset true head) ws (after_task_check check b head after)
met_judged b check head after ws on offset =
    judged-all (Met (in_group 0 offset true head) ws) b head (λ f e. stopped e) check after (λ fine e. omega (arith, on e))

met_from : (bounds : Bounds) (b : Bank) (k : ℕ) (position : DecoderState) (ws : List ℕ) → Met position ws (decode_from bounds b k position ws)
unfolding decode_from task_end_count_from
met_from bounds b k between_tasks [] = λ e. refl
met_from bounds b k between_tasks (h ∷ ws) = met_open b k h ws (on_from bounds b k ws) (met_from bounds b (k + 1) (group_of k h) ws)
met_from bounds b k (in_group (suc n) offset ends head) [] = λ e. stopped e
met_from bounds b k (in_group (suc n) offset ends head) (w ∷ ws) =
    wrote-all (Met (in_group (suc n) offset ends head) (w ∷ ws)) b k (λ f e. stopped e) (write_register b offset w) (on_with bounds k (in_group n (offset + 4) ends head) ws)
    (λ next. met_from bounds next (k + 1) (in_group n (offset + 4) ends head) ws)
met_from bounds b k (in_group zero offset false head) [] = λ e. stopped e
met_from bounds b k (in_group zero offset false head) (h ∷ ws) =
    λ e. omega (arith, met_open b k h ws (on_from bounds b k ws) (met_from bounds b (k + 1) (group_of k h) ws) e)
met_from bounds b k (in_group zero offset true head) [] = met_judged b (check_task bounds (task_of b)) head (stop_with b finished) [] (λ e. refl) offset
met_from bounds b k (in_group zero offset true head) (h ∷ ws) =
    met_judged b (check_task bounds (task_of b)) head (decode_header b k h (length ws) (on_from bounds b k ws)) (h ∷ ws) (met_open b k h ws (on_from bounds b k ws) (met_from bounds b (k + 1) (group_of k h) ws)) offset

pub tasks_marks : (bounds : Bounds) (bank : Bank) (ws : List ℕ) → (decode_batch bounds bank ws).ending ≡ finished → length (decode_batch bounds bank ws).tasks ≡ task_end_count ws
tasks_marks bounds bank ws e = met_from bounds bank 0 between_tasks ws e

-- the number that a faultless batch is answered with
pub faultless_marks : (bounds : Bounds) (bank : Bank) (ws : List ℕ) (n : ℕ) → verdict_of (decode_batch bounds bank ws) ≡ without_fault n → n ≡ task_end_count ws
faultless_marks bounds bank ws n v =
    let read = faultless-finished n (decode_batch bounds bank ws) v in
    read.1 ∙ tasks_marks bounds bank ws read.0
