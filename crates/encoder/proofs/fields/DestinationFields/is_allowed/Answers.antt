use Rattle.encoder.specs.Fields.{destination_allowed}
use Rattle.encoder.proofs.fields.DestinationFields.is_allowed.Goals as goal

pub returns : goal.returns
unfolding destination_allowed
returns c = simp (c.is_allowed-2.ensures, c.is_allowed.ensures)
