use Rattle.totals_io.proofs.Lots.{lot-of}
use Rattle.totals_io.proofs.add_argument.Goals as goal

pub returns : goal.returns
returns g c = lot-of _ _ _ c.read_argument-file.ensures c.add_reading.ensures.0 c.add_reading.ensures.1
