use Rattle.claims.specs.Engine.{answer_or_refusal}
use Rattle.lines.specs.Lines.{answer_line}
use Rattle.lines.proofs.record_lines.Printing.{outcome-refused}
use Rattle.lines.proofs.record_lines.outcome_line.Goals as goal

pub returns-in-Err : goal.returns-in-Err
returns-in-Err c =
    rw (c.in-Err.is, outcome-refused c.args.client c.in-Err.refusal, ← c.number.ensures) c.refusal_line.ensures

pub returns-in-Ok : goal.returns-in-Ok
unfolding answer_or_refusal answer_line
returns-in-Ok c =
    rw c.in-Ok.is c.completion_line.ensures
