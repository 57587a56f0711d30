use mathlib.Core.Path.{◌≡◌}
use Prim.Native.Nat.{◌≤◌}
use lib.ListN.{length}
use native.Mathlib.Omega.{arith}
use lib.Dec.{ltb}
use borrow.Author.Tests.{ltb-false}
use Rattle.word.proofs.Tests.{or_false}
use Rattle.ring.specs.Segment.{batch_words}
use Rattle.records.specs.Records.{Entry}
use Rattle.lines.proofs.acceptance.Taken.{refused_none, within-taken}
use Rattle.inquiry.proofs.Answering.{after-refused, after-accepted}
use Rattle.inquiry.proofs.after_record.Goals.{Else-finding}
use Rattle.inquiry.proofs.after_record.Goals as goal

-- neither count is over
few : (c : Else-finding) → let f = c.args.finding in (f.records ≤ 1024) × (f.accepted ≤ 1024)
few c =
    let f = c.args.finding in
    let both = or_false (ltb 1024 f.records) (ltb 1024 f.accepted) c.if-finding.false in
    (ltb-false 1024 f.records both.0, ltb-false 1024 f.accepted both.1)

pub returns-then-finding : goal.returns-then-finding
returns-then-finding c = rw c.if-finding.true

pub overflow_add-records : goal.overflow_add-records
overflow_add-records c = omega (arith, few (goal.at.overflow_add-records c).Else-finding)

pub overflow_add-result : goal.overflow_add-result
overflow_add-result c =
    omega (arith, few (goal.at.overflow_add-result c).Else-finding)

pub returns-in-None : goal.returns-in-None
returns-in-None c =
    let a = c.args in
    let entry : Entry = record { client = a.client; batch = a.batch.now } in
    rw c.if-finding.false (after-refused a.question a.finding entry (refused_none entry _ c.accept.ensures c.in-None.is))

pub returns-in-Some : goal.returns-in-Some
returns-in-Some c =
    let a = c.args in
    let entry : Entry = record { client = a.client; batch = a.batch.now } in
    let took = within-taken entry _ c.accept.ensures _ c.in-Some.is in
    let r = c.new-whole in
    let w : batch_words r.result.ring.now r.result.offset r.result.size ≡ batch_words a.batch.now 0 (length a.batch.now) = rw (r.ensures.0, r.ensures.1, r.ensures.2) in
    rw c.if-finding.false (after-accepted a.question a.finding entry _ _ _ took.0 (few (goal.at.returns-in-Some c).Else-finding).1 took.1 (rw w at c.after_batch-last.ensures) c.after_why-reason.ensures)
