use Rattle.std.proofs.Common.{arith}
use Rattle.std.proofs.lemmas.Grind.{common_steps}
use Rattle.engine_record.proofs.Checking.{checked_none}
use Rattle.queue.specs.Refusals.{first_refusal}
use Rattle.submission.proofs.piece_refusal.Goals as goal

pub returns-in_err-refuse-2 : goal.returns-in_err-refuse-2
unfolding first_refusal
returns-in_err-refuse-2 c = let none = checked_none c.args.engine.now c.args.found c.requires in grind (arith, common_steps)

pub returns : goal.returns
unfolding first_refusal
returns c = let none = checked_none c.args.engine.now c.args.found c.requires in grind (arith, common_steps)
