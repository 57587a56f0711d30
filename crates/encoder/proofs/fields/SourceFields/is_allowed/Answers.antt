use Rattle.encoder.specs.Fields.{source_allowed}
use Rattle.encoder.proofs.fields.SourceFields.is_allowed.Goals as goal

pub returns : goal.returns
unfolding source_allowed
returns c = simp (c.is_allowed-3.ensures, c.is_allowed-2.ensures, c.is_allowed.ensures)
