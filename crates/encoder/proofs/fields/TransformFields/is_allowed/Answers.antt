use Rattle.encoder.specs.Fields.{transform_allowed}
use Rattle.encoder.proofs.fields.TransformFields.is_allowed.Goals as goal

pub returns : goal.returns
unfolding transform_allowed
returns c = cc
