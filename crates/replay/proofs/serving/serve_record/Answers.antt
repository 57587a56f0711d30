use mathlib.Core.Path.{◌≡◌}
use mathlib.Core.Bool.{true}
use native.Mathlib.Omega.{arith}
use lib.ListN.{length}
use borrow.Author.Tests.{not-true}
use borrow.Author.Rules.{rules}
use Rattle.lines.specs.Lines.{bad_score_line}
use Rattle.lines.proofs.record_lines.Printing.{prints-typed}
use Rattle.replay.proofs.RecordServed.{lies_some, record_bad, record_good}
use Rattle.replay.proofs.serving.serve_record.Goals as goal

pub returns-then-not-score_in : goal.returns-then-not-score_in
unfolding bad_score_line
returns-then-not-score_in c =
    let a = c.args in
    let score = c.score_in in
    record_bad a.edition a.engine a.ring.now a.memory.now a.held.now a.line.now a.end c.requires.0 score.result _ _ score.ensures (not-true score.result c.if-not-score_in.true-raw) (prints-typed bad_score_line a.line.now _ _ (omega arith) c.requires.1 c.copy.ensures)

pub bounds-held-4 : goal.bounds-held-4
bounds-held-4 c =
    omega (arith, lies_some c.args.edition c.args.end (length c.args.held.now) c.requires.0)

pub overflow_cast-held : goal.overflow_cast-held
overflow_cast-held c = omega (arith, c.shared_slice_known-2-1.given 4)

pub returns : goal.returns
returns c =
    let a = c.args in
    let score = c.score_in in
    let holds : score.result ≡ true = search rules in
    record_good a.edition a.engine a.ring.now a.memory.now a.held.now a.line.now a.end c.requires.0 score.result _ _ _ _ _ score.ensures holds c.batch_start-start.ensures c.submit_and_run.ensures
