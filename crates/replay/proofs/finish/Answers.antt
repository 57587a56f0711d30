use native.Mathlib.Omega.{arith}
use Rattle.records.specs.Records.{cut_record}
use Rattle.lines.specs.Lines.{ending_line}
use Rattle.lines.proofs.record_lines.Printing.{prints-none, prints-typed}
use Rattle.replay.proofs.Feeding.{finishes-short, finishes-version, finishes-whole, finishes_cut, finishes-ended}
use Rattle.replay.proofs.finish.Goals as goal

pub returns-then-line-lt128 : goal.returns-then-line-lt128
returns-then-line-lt128 c =
    let a = c.args in
    finishes-short a.replay a.line.now 0 a.line.now c.if-line-lt128.true

pub returns-then-have-eq0 : goal.returns-then-have-eq0
returns-then-have-eq0 c =
    let a = c.args in
    finishes-whole a.replay a.line.now _ _ c.if-line-lt128.false c.in-Records.is c.if-have-eq0.true (prints-none a.line.now)

pub returns-in-Version : goal.returns-in-Version
returns-in-Version c =
    let a = c.args in
    finishes-version a.replay a.line.now _ _ c.if-line-lt128.false c.in-Version.is c.bad_version.ensures

pub returns-else-have-eq0 : goal.returns-else-have-eq0
unfolding ending_line
returns-else-have-eq0 c =
    let a = c.args in
    let room = c.if-line-lt128.false in
    finishes_cut a.replay a.line.now _ _ room c.in-Records.is c.if-have-eq0.false (prints-typed (ending_line cut_record) a.line.now _ _ (omega arith) room c.copy.ensures)

pub returns-in-Ended : goal.returns-in-Ended
returns-in-Ended c =
    let a = c.args in
    finishes-ended a.replay a.line.now _ _ c.if-line-lt128.false c.in-Ended.is (prints-none a.line.now)
