use Rattle.std.proofs.Common.{◌≡◌, true, false, is_some, Option, sym, ap, ◌∙◌, arith, rules}
use Rattle.std.proofs.lemmas.Grind.{common_steps}
use Rattle.engine_record.specs.declared.Counted.{Counted}
use Rattle.engine_record.specs.Rules.{valid}
use Rattle.engine_record.proofs.Slots.{ready_most}
use Rattle.engine_record.proofs.Checking.{checked_valid, counted_valid, counted_ready, counted_bytes}
use Rattle.queue.specs.Refusals.{first_refusal}
use Rattle.queue.proofs.enqueue.submit_refusal.Goals.{In-Some}
use Rattle.queue.proofs.enqueue.submit_refusal.Goals as goal

right : (c : In-Some) → valid c.args.engine ≡ true
right c = counted_valid c.args.engine c.in-Some.counted (sym c.in-Some.is ∙ c.requires)

pub returns-in_default : goal.returns-in_default
unfolding first_refusal
returns-in_default c =
    let v : valid c.args.engine ≡ false = sym (checked_valid c.args.engine c.args.found c.requires) ∙ ap (λ (f : Option Counted). is_some f) c.in_default.is in
    grind (arith, common_steps)

pub taken_slots-requires : goal.taken_slots-requires
taken_slots-requires c =
    (omega (arith, ready_most c.args.engine.slots), counted_ready c.args.engine c.in-Some.counted (sym c.in-Some.is ∙ c.requires))

pub free_bytes-requires : goal.free_bytes-requires
free_bytes-requires c =
    (right (goal.at.free_bytes-requires c).In-Some, omega (arith, ready_most c.args.engine.slots), counted_bytes c.args.engine c.in-Some.counted (sym c.in-Some.is ∙ c.requires))

pub returns-in_err-refuse : goal.returns-in_err-refuse
unfolding first_refusal
returns-in_err-refuse c = let v = right (goal.at.returns-in_err-refuse c).In-Some in grind (arith, common_steps)

pub returns-in_err-refuse-2 : goal.returns-in_err-refuse-2
unfolding first_refusal
returns-in_err-refuse-2 c = rw (right (goal.at.returns-in_err-refuse-2 c).In-Some) (search rules)

pub returns-in_err-refuse-3 : goal.returns-in_err-refuse-3
unfolding first_refusal
returns-in_err-refuse-3 c = let v = right (goal.at.returns-in_err-refuse-3 c).In-Some in grind (arith, common_steps)

pub returns-in_err-refuse-4 : goal.returns-in_err-refuse-4
unfolding first_refusal
returns-in_err-refuse-4 c = let v = right (goal.at.returns-in_err-refuse-4 c).In-Some in grind (arith, common_steps)

pub returns-in_err-refuse-5 : goal.returns-in_err-refuse-5
unfolding first_refusal
returns-in_err-refuse-5 c = let v = right (goal.at.returns-in_err-refuse-5 c).In-Some in grind (arith, common_steps)

pub returns : goal.returns
unfolding first_refusal
returns c = let v = right (goal.at.returns c).In-Some in grind (arith, common_steps)
