use native.Mathlib.Omega.{arith}
use lib.ListN.{length}
use borrow.Author.Tests.{not-true, not-false}
use Rattle.tally_pieces.proofs.Batch.{lies_some, record_bad, record_good}
use Rattle.tally_pieces.proofs.add_record.Goals as goal

pub returns-then-not-score_in : goal.returns-then-not-score_in
returns-then-not-score_in c =
    let a = c.args in
    record_bad a.edition a.held.now a.end c.requires a.running _ c.add_unscored-begun.ensures _ c.score_in.ensures (not-true c.score_in.result c.if-not-score_in.true-raw)

pub bounds-held-4 : goal.bounds-held-4
bounds-held-4 c =
    omega (arith, lies_some c.args.edition c.args.end (length c.args.held.now) c.requires)

pub overflow_cast-held : goal.overflow_cast-held
overflow_cast-held c = omega (arith, c.shared_slice_known-2-1.given 4)

pub returns : goal.returns
returns c =
    let a = c.args in
    let score = c.score_in in
    record_good a.edition a.held.now a.end c.requires a.running _ c.add_unscored-begun.ensures _ score.ensures (not-false score.result c.if-not-score_in.false-raw) _ c.batch_start-start.ensures _ c.add_submitted.ensures
