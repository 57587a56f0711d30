use Rattle.inquiry_io.proofs.Handed.{handed}
use Rattle.inquiry_io.proofs.print_fault.Goals as goal

pub returns : goal.returns
returns g c = handed _ _ _ _ _ c.fault_line-size.ensures c.print.ensures.0
