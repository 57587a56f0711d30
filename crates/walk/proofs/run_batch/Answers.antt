use mathlib.Core.Path.{refl, sym, ap, subst, ◌∙◌}
use Prim.Native.Nat.{ℕ}
use native.Mathlib.Omega.{arith}
use lib.ListN.{length}
use Rattle.task_check.proofs.Sound.{AllSound}
use Rattle.batch.specs.declared.verdict.Validation.{Validation}
use Rattle.batch.specs.Batch.{DecodedBatch, decode_batch}
use Rattle.batch.specs.Walk.{words_in, reading_left, tasks_left}
use Rattle.batch.proofs.Steps.{counted, counted_none, one-given, none-given}
use Rattle.batch.proofs.Tasks.{drawn-sound, given-sound}
use Rattle.raster.specs.Task.{draw_tasks}
use Rattle.raster.proofs.Judged.{drawable}
use Rattle.raster.proofs.Fold.{draws-one, draws-none, batch-tasks}
use Rattle.walk.proofs.run_batch.Goals as goal

pub loop-task-init : goal.loop-task-init
loop-task-init c =
    let a = c.args in
    let t = c.new-tasks in
    let whole = decode_batch a.bounds a.bank (words_in a.batch) in (
      ap (λ (r : DecodedBatch). draw_tasks r.tasks a.memory.now) (sym t.ensures.left),
      counted_none whole ∙ ap (counted 0) (sym t.ensures.left) ∙ ap (λ (n : ℕ). counted n (reading_left t.result)) (sym t.ensures.none),
      subst (λ (r : DecodedBatch). AllSound a.bounds r.tasks) (sym t.ensures.left) (drawn-sound a.bounds a.bank (words_in a.batch)),
      refl,
    )

pub draw_task-requires : goal.draw_task-requires
draw_task-requires c =
    let l = c.loop-task in
    drawable c.args.bounds c.in-Some.task
    (given-sound c.args.bounds l.tasks c.next.new.self c.in-Some.task c.in-Some.ensures.steps l.invariant.2).0
    (length l.memory) (omega (arith, c.requires.window, l.invariant.3)) (omega (arith, c.requires.common, l.invariant.3))

pub loop-task-preserved : goal.loop-task-preserved
loop-task-preserved c =
    let l = c.loop-task in
    let g = c.in-Some.ensures.steps in (
      l.invariant.0 ∙ draws-one l.tasks c.next.new.self l.memory c.in-Some.task g ∙ ap (draw_tasks (tasks_left c.next.new.self)) (sym c.draw_task.ensures),
      l.invariant.1 ∙ one-given l.tasks c.next.new.self c.in-Some.task g,
      (given-sound c.args.bounds l.tasks c.next.new.self c.in-Some.task g l.invariant.2).1,
      c.draw_task.auto.memory ∙ l.invariant.3,
    )

pub returns : goal.returns
returns c =
    let l = c.loop-task in
    let g = c.in_default.ensures.steps in (
      sym (ap (λ (j : Validation). j.verdict) (l.invariant.1 ∙ none-given l.tasks c.next.new.self g)),
      sym (batch-tasks c.args.bounds c.args.bank (words_in c.args.batch) c.args.memory.now ∙ l.invariant.0 ∙ draws-none l.tasks c.next.new.self l.memory g),
    )
