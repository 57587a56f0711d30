use Rattle.inquiry_io.proofs.Handed.{handed}
use Rattle.inquiry_io.proofs.print_touched.Goals as goal

pub returns : goal.returns
returns g c = handed _ _ _ _ _ c.touched_line-n.ensures c.print.ensures.0
