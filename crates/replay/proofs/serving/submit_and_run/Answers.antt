use mathlib.Core.Path.{◌≡◌, refl, sym, ap, ◌∙◌}
use Rattle.queue.specs.Answers.{refusal_number_of}
use Rattle.queue.proofs.Refusals.{not_zero}
use Rattle.replay.proofs.RecordServed.{serves_refused, serves_ran}
use borrow.Author.Rules.{rules}
use Rattle.replay.proofs.serving.submit_and_run.Goals as goal

pub returns-in-Err : goal.returns-in-Err
returns-in-Err c =
    let a = c.args in
    let sub = c.submit-submitted.ensures in
    let n = c.number.ensures in
    serves_refused a.engine a.ring.now a.memory.now _ a.line.now _ _ _ _ _ sub.0 sub.1 _ (n ∙ sym (ap refusal_number_of c.in-Err.is)) (not_zero c.in-Err.refusal _ n) refl refl c.refusal_line.ensures

pub returns : goal.returns
returns c =
    let a = c.args in
    let sub = c.submit-submitted.ensures in
    let none : refusal_number_of c.submit-submitted.result.answer ≡ 0 = search rules in
    serves_ran a.engine a.ring.now a.memory.now _ a.line.now _ _ _ _ _ sub.0 sub.1 _ none c.run_by-ran.ensures.0 c.run_by-ran.ensures.1 refl c.outcome_line.ensures
