use Rattle.encoder.specs.Fields.{alpha_allowed}
use Rattle.encoder.proofs.fields.AlphaFields.is_allowed.Goals as goal

pub returns : goal.returns
unfolding alpha_allowed
returns c = simp c.is_code.ensures
