use Rattle.totals_io.proofs.Lots.{no_file}
use Rattle.totals_io.proofs.no_file.Goals as goal

pub returns : goal.returns
returns c = no_file _
