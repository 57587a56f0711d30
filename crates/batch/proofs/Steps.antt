-- The tasks of a batch one after another, and the verdict.
use Prim.Native.Nat.{ℕ, ◌+◌, ◌<◌, ◌≤◌}
use mathlib.Core.Path.{◌≡◌, refl, sym, ap, ◌∙◌}
use mathlib.Core.Bool.{true, false, false≢true}
use mathlib.Core.List.{List}
use native.Mathlib.Omega.{arith}
use lib.ListN.{length}
use Rattle.std.specs.Prelude.{Option, Some, None, Ok, Err, is_some}
use Rattle.std.specs.Option.{option_map_or}
use Rattle.register.specs.declared.task.Task.{Task}
use Rattle.task_check.specs.declared.fault.Fault.{Fault}
use Rattle.batch.specs.declared.verdict.FaultAt.{FaultAt}
use Rattle.batch.specs.declared.verdict.Verdict.{Verdict}
use Rattle.batch.specs.declared.verdict.Validation.{Validation}
use Rattle.batch.specs.declared.walk.TaskRead.{TaskRead}
use Rattle.batch.specs.declared.walk.Stop.{Stop}
use Rattle.batch.specs.declared.walk.BatchTasks.{BatchTasks}
use Rattle.batch.specs.Batch.{DecodedBatch, BatchEnd, finished, faulty, stop_with, cons_task, without_fault, with_fault, verdict_after, verdict_of, validation_of, fault_offset_of}
use Rattle.batch.specs.Walk.{WalkStep, words_in, decode_rest, decode_after_step, step_at, ending_of, reading_so_far, left_of, reading_left, GivesTask}
use Rattle.batch.proofs.Simulates.{simulates}

-- the validation of m tasks, where the reading ended like this
abbrev validation_after : ℕ → DecodedBatch → Validation
validation_after m r = record { verdict = verdict_after m r.ending; bank = r.bank }

-- the validation of a batch of which n tasks have been counted and this is the rest
abbrev pub counted : ℕ → DecodedBatch → Validation
counted n r = validation_after (n + length r.tasks) r

pub counted_none : (r : DecodedBatch) → validation_of r ≡ counted 0 r
counted_none r = ap (λ (m : ℕ). validation_after m r) (omega arith)

counted-one : (n : ℕ) (t : Task) (r : DecodedBatch) → counted n (cons_task t r) ≡ counted (n + 1) r
counted-one n t r = ap (λ (m : ℕ). validation_after m r) (omega arith)

-- ---- the tasks one after another

none-met : (o : Option FaultAt) → is_some o ≡ false → o ≡ None
none-met None e = refl
none-met (Some x) e = absurd (false≢true (sym e))

module _ (s : BatchTasks) where
  abbrev ws : List ℕ
  ws = words_in s.batch

  -- before a fault the rest is read
  pub left-open : s.fault ≡ None → reading_left s ≡ decode_rest s.bounds ws s.bank s.at
  unfolding reading_left
  left-open e = rw e

  -- after a fault nothing is
  pub left_shut : is_some s.fault ≡ true → reading_left s ≡ reading_so_far s
  unfolding reading_left
  left_shut e = by s.fault e
    where
      by : (o : Option FaultAt) → is_some o ≡ true → left_of o s.bounds ws s.bank s.at ≡ stop_with s.bank (ending_of o)
      by None e = absurd (false≢true e)
      by (Some x) e = refl

  module _ (step : WalkStep) (is : step ≡ step_at s.bounds ws s.bank s.at) (going : is_some s.fault ≡ false) where
    reads : reading_left s ≡ decode_after_step s.bounds ws s.bank step
    reads = left-open (none-met s.fault going) ∙ (simulates s.bounds ws s.bank s.at step is).same_decoding

    pub ends-here : step ≡ Ok None → reading_left s ≡ reading_so_far s
    ends-here e = reads ∙ ap (decode_after_step s.bounds ws s.bank) e ∙ rw (none-met s.fault going)

    pub stops-here : (stop : Stop) → step ≡ Err stop → reading_left s ≡ stop_with stop.bank (faulty stop.fault.fault stop.fault.offset)
    stops-here stop e = reads ∙ ap (decode_after_step s.bounds ws s.bank) e

    pub gives-task : (read : TaskRead) → step ≡ Ok (Some read) → reading_left s ≡ cons_task read.task (left_of s.fault s.bounds ws read.bank read.next)
    gives-task read e = reads ∙ ap (decode_after_step s.bounds ws s.bank) e ∙ rw (none-met s.fault going)

    pub onward : (read : TaskRead) → step ≡ Ok (Some read) → (s.at < read.next) × (read.next ≤ length ws)
    onward read e = rw e at (simulates s.bounds ws s.bank s.at step is).onward

-- ---- and of the validation, in a batch of which some tasks were given

pub one-given : (old new : BatchTasks) (task : Task) → GivesTask old (Some task) new → counted old.count (reading_left old) ≡ counted new.count (reading_left new)
one-given old new task g =
    ap (counted old.count) g.0 ∙ counted-one old.count task (reading_left new) ∙ ap (λ (m : ℕ). counted m (reading_left new)) (sym g.1)

pub none-given : (old new : BatchTasks) → GivesTask old None new
    → counted old.count (reading_left old) ≡ record { verdict = record { tasks = new.count; fault = new.fault }; bank = new.bank }
none-given old new g = ap (counted old.count) g.0 ∙ by new.fault
  where
    by : (f : Option FaultAt) → counted old.count (stop_with new.bank (ending_of f)) ≡ record { verdict = record { tasks = new.count; fault = f }; bank = new.bank }
    by None = ap (λ (m : ℕ). validation_after m (stop_with new.bank finished)) (omega (arith, g.2))
    by (Some x) = ap (λ (m : ℕ). validation_after m (stop_with new.bank (faulty x.fault x.offset))) (omega (arith, g.2))

-- ---- what a verdict says of the reading

pub faultless-finished : (n : ℕ) (r : DecodedBatch) → verdict_of r ≡ without_fault n → (r.ending ≡ finished) × (n ≡ length r.tasks)
faultless-finished n r v = by (length r.tasks) r.ending v
  where
    by : (m : ℕ) (e : BatchEnd) → verdict_after m e ≡ without_fault n → (e ≡ finished) × (n ≡ m)
    by m finished v = (refl, sym (ap (λ (x : Verdict). x.tasks) v))
    by m (faulty f o) v =
        let none : ◌≡◌ {A = Option FaultAt} (Some (record { fault = f; offset = o })) None = ap (λ (x : Verdict). x.fault) v in
        absurd (let z : ◌≡◌ {A = ℕ} 0 1 = cc in omega arith)

pub faulty_stopped : (n : ℕ) (f : Fault) (offset : ℕ) (r : DecodedBatch) → verdict_of r ≡ with_fault n f offset → (r.ending ≡ faulty f offset) × (n ≡ length r.tasks)
faulty_stopped n f offset r v = by (length r.tasks) r.ending v
  where
    by : (m : ℕ) (e : BatchEnd) → verdict_after m e ≡ with_fault n f offset → (e ≡ faulty f offset) × (n ≡ m)
    by m finished v =
        let none : ◌≡◌ {A = Option FaultAt} None (Some (record { fault = f; offset = offset })) = ap (λ (x : Verdict). x.fault) v in
        absurd (let z : ◌≡◌ {A = ℕ} 0 1 = cc in omega arith)
    by m (faulty g o) v =
        let fault : g ≡ f = ap (λ (x : Verdict). option_map_or (λ (q : FaultAt). q.fault) x.fault f) v in
        let there : o ≡ offset = ap fault_offset_of v in
        (rw (fault, there), sym (ap (λ (x : Verdict). x.tasks) v))
