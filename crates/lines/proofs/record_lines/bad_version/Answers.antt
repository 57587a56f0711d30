use native.Mathlib.Omega.{arith}
use Rattle.records.specs.Records.{bad_version}
use Rattle.lines.specs.Lines.{ending_line}
use Rattle.lines.proofs.record_lines.Printing.{prints-typed}
use Rattle.lines.proofs.record_lines.bad_version.Goals as goal

pub returns : goal.returns
unfolding ending_line
returns c =
    prints-typed (ending_line bad_version) c.args.line.now _ _ (omega arith) c.requires c.copy.ensures
