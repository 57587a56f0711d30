use Rattle.std.proofs.Common.{◌≡◌, true, false, is_some, Option, sym, ap, ◌∙◌, arith}
use Rattle.std.proofs.lemmas.Grind.{common_steps}
use Rattle.engine_record.specs.declared.Counted.{Counted}
use Rattle.engine_record.specs.Rules.{valid}
use Rattle.engine_record.proofs.Checking.{checked_valid, counted_valid, counted_ready}
use Rattle.queue.specs.Refusals.{first_refusal}
use Rattle.dequeue.proofs.run_refusal.Goals.{In-Some}
use Rattle.dequeue.proofs.run_refusal.Goals as goal

right : (c : In-Some) → valid c.args.engine.now ≡ true
right c = counted_valid c.args.engine.now c.in-Some.counted (sym c.in-Some.is ∙ c.requires)

pub returns-in_default : goal.returns-in_default
unfolding first_refusal
returns-in_default c =
    let v : valid c.args.engine.now ≡ false = sym (checked_valid c.args.engine.now c.args.found c.requires) ∙ ap (λ (f : Option Counted). is_some f) c.in_default.is in
    grind (arith, common_steps)

pub returns-in_err-refuse : goal.returns-in_err-refuse
unfolding first_refusal
returns-in_err-refuse c = let v = right (goal.at.returns-in_err-refuse c).In-Some in grind (arith, common_steps)

pub returns : goal.returns
unfolding first_refusal
returns c =
    let v = right (goal.at.returns c).In-Some in
    let r = counted_ready c.args.engine.now c.in-Some.counted (sym c.in-Some.is ∙ c.requires) in
    grind (arith, common_steps)
