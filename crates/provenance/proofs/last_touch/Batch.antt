-- One batch, a task at a time: the last of its tasks that holds a byte.
use mathlib.Core.Path.{◌≡◌, refl, ap, ◌∙◌}
use mathlib.Core.Bool.{cond}
use Rattle.std.specs.Prelude.{Some, None}
use mathlib.Core.List.{List}
use Prim.Native.Nat.{ℕ, ◌+◌, ◌-◌}
use Rattle.register.specs.declared.task.Task.{Task}
use Rattle.batch.specs.Batch.{DecodedBatch, cons_task, tasks_drawn}
use Rattle.batch.specs.declared.walk.BatchTasks.{BatchTasks}
use Rattle.batch.specs.Walk.{reading_left, GivesTask}
use Rattle.std.specs.Prelude.{Option}
use Rattle.provenance.specs.declared.Touch.{Touch}
use Rattle.provenance.specs.Drawn.{numbered}
use Rattle.provenance.specs.Touched.{holds, touch_of, last_from}

module _ (i ticket : ℕ) where
  -- the answer, where the tasks of this reading are to come, the first of them with this number, and `last` is the answer so far
  abbrev pub rest_from : (number : ℕ) (last : Option Touch) → DecodedBatch → Option Touch
  rest_from number last r = last_from last i (numbered ticket number (tasks_drawn r))

  -- the answer after one more task
  abbrev pub after : (number : ℕ) (last : Option Touch) → Task → Option Touch
  after number last t = cond (holds t.output i) (Some (touch_of (record { ticket = ticket; number = number; task = t }))) last

  one_more : (number : ℕ) (last : Option Touch) (t : Task) (r : DecodedBatch) → rest_from number last (cons_task t r) ≡ rest_from (number + 1) (after number last t) r
  unfolding last_from numbered
  one_more number last t r = refl

  -- before a task is given and after it, and where none is left
  module _ (old new : BatchTasks) (number : ℕ) (last : Option Touch) where
    pub one_given : (t : Task) → GivesTask old (Some t) new → rest_from number last (reading_left old) ≡ rest_from (number + 1) (after number last t) (reading_left new)
    one_given t g = ap (rest_from number last) g.0 ∙ one_more number last t (reading_left new)

    pub none_given : GivesTask old None new → rest_from number last (reading_left old) ≡ last
    unfolding last_from numbered
    none_given g = ap (rest_from number last) g.0
