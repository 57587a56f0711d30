use Rattle.record_bytes.specs.Read.{no_record}
use Rattle.record_bytes.proofs.reading.no_record.Goals as goal

pub returns : goal.returns
unfolding no_record
returns c = rw c.no_staged.ensures
