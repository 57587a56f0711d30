use Rattle.encoder.specs.Fields.{blending_allowed}
use Rattle.encoder.proofs.fields.BlendingFields.is_allowed.Goals as goal

pub returns : goal.returns
unfolding blending_allowed
returns c = simp (c.is_code-2.ensures, c.is_code.ensures)
