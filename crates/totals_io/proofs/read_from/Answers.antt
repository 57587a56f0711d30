use Rattle.totals_io.proofs.Lots.{some-file}
use Rattle.totals_io.proofs.read_from.Goals as goal

pub returns-then-not-reading : goal.returns-then-not-reading
returns-then-not-reading g c = some-file _ _ c.read-reading.ensures

pub returns-else-not-reading : goal.returns-else-not-reading
returns-else-not-reading g c = some-file _ _ c.read-reading.ensures
