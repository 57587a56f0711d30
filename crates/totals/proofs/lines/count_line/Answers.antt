use Rattle.totals.proofs.lines.Lines.{typed_three}
use Rattle.totals.proofs.lines.count_line.Goals as goal

pub returns : goal.returns
returns c =
    typed_three _ _ _ _ _ _ 10 c.label-a.ensures c.decimal-b.ensures.0 c.push.ensures
