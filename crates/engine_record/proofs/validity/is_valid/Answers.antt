use Rattle.std.proofs.Common.{◌∙◌}
use Rattle.engine_record.proofs.Checking.{checked_valid}
use Rattle.engine_record.proofs.validity.is_valid.Goals as goal

pub returns : goal.returns
returns c = c.is_some.ensures ∙ checked_valid c.args.engine.now c.check.result c.check.ensures.found
