use Rattle.encoder.specs.Fields.{surface_allowed}
use Rattle.encoder.proofs.fields.SurfaceFields.is_allowed.Goals as goal

pub returns : goal.returns
unfolding surface_allowed
returns c = simp c.is_code.ensures
