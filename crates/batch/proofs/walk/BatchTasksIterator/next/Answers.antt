use mathlib.Core.Path.{refl, sym, ap, ◌∙◌}
use native.Mathlib.Omega.{arith}
use lib.ListN.{length}
use Rattle.std.proofs.Common.{rules}
use Rattle.std.specs.Prelude.{Ok}
use Rattle.batch.specs.Batch.{DecodedBatch}
use Rattle.batch.specs.Walk.{reading_left}
use Rattle.batch.proofs.DecoderCases.{words_fit}
use Rattle.batch.proofs.Steps.{left_shut, ends-here, stops-here, gives-task, onward}
use Rattle.batch.proofs.walk.BatchTasksIterator.next.Goals as goal

pub returns-then-is_some-clause-steps : goal.returns-then-is_some-clause-steps
returns-then-is_some-clause-steps c =
    let e = left_shut c.args.self.now (sym c.is_some.ensures ∙ c.if-is_some.true) in
    (e, e, refl)

pub returns-in-Ok-None-clause-steps : goal.returns-in-Ok-None-clause-steps
returns-in-Ok-None-clause-steps c =
    let e = ends-here c.args.self.now c.next_task.result c.next_task.ensures (sym c.is_some.ensures ∙ c.if-is_some.false) (c.in-Ok-None.is ∙ ap Ok c.in-Ok-None.field-0-is) in
    (e, e, refl)

pub overflow_add-self : goal.overflow_add-self
overflow_add-self c =
    let s = c.args.self.now in
    let o = onward s c.next_task.result c.next_task.ensures (sym c.is_some.ensures ∙ c.if-is_some.false) _ (c.in-Ok-Some.is ∙ ap Ok c.in-Ok-Some.field-0-is) in
    omega (arith, s.counted, o, words_fit s.batch.ring.now s.batch.offset s.batch.size, c.fits-self)

pub invariant_of-self : goal.invariant_of-self
invariant_of-self c =
    let s = c.args.self.now in
    let o = onward s c.next_task.result c.next_task.ensures (sym c.is_some.ensures ∙ c.if-is_some.false) _ (c.in-Ok-Some.is ∙ ap Ok c.in-Ok-Some.field-0-is) in
    record { counted = omega (arith, s.counted, o) }

pub returns-in-Ok-Some-clause-steps : goal.returns-in-Ok-Some-clause-steps
unfolding reading_left
returns-in-Ok-Some-clause-steps c =
    (gives-task c.args.self.now c.next_task.result c.next_task.ensures (sym c.is_some.ensures ∙ c.if-is_some.false) _ (c.in-Ok-Some.is ∙ ap Ok c.in-Ok-Some.field-0-is), refl)

pub returns-in-Ok-Some-clause-goes : goal.returns-in-Ok-Some-clause-goes
unfolding reading_left
returns-in-Ok-Some-clause-goes c =
    let step = gives-task c.args.self.now c.next_task.result c.next_task.ensures (sym c.is_some.ensures ∙ c.if-is_some.false) _ (c.in-Ok-Some.is ∙ ap Ok c.in-Ok-Some.field-0-is) in
    let shorter = ap (λ (r : DecodedBatch). length r.tasks) step in
    search rules

pub returns-in-Err-clause-steps : goal.returns-in-Err-clause-steps
unfolding reading_left
returns-in-Err-clause-steps c =
    (stops-here c.args.self.now c.next_task.result c.next_task.ensures (sym c.is_some.ensures ∙ c.if-is_some.false) _ c.in-Err.is, refl, refl)
