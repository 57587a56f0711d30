use native.Mathlib.Omega.{arith}
use Rattle.records.specs.Records.{bad_record}
use Rattle.lines.specs.Lines.{ending_line}
use Rattle.lines.proofs.record_lines.Printing.{prints-typed}
use Rattle.replay.proofs.Feeding.{found_nothing, found_record, found-version, found-bad}
use borrow.Author.Rules.{rules}
use Rattle.replay.proofs.after_found.Goals as goal

pub serve_record-requires : goal.serve_record-requires
serve_record-requires c =
    (rw c.in-Record.is at c.requires.0, search rules)

pub returns-in-Record : goal.returns-in-Record
returns-in-Record c =
    let a = c.args in
    found_record a.edition a.engine a.ring.now a.memory.now a.held.now a.line.now a.found _ c.in-Record.is _ _ _ _ c.serve_record.ensures

pub returns-in-Nothing : goal.returns-in-Nothing
returns-in-Nothing c =
    let a = c.args in
    found_nothing a.edition a.engine a.ring.now a.memory.now a.held.now a.line.now a.found c.in-Nothing.is

pub returns-in-BadVersion : goal.returns-in-BadVersion
returns-in-BadVersion c =
    let a = c.args in
    found-version a.edition a.engine a.ring.now a.memory.now a.held.now a.line.now a.found _ _ c.in-BadVersion.is c.bad_version.ensures

pub returns-in-BadRecord : goal.returns-in-BadRecord
unfolding ending_line
returns-in-BadRecord c =
    let a = c.args in
    found-bad a.edition a.engine a.ring.now a.memory.now a.held.now a.line.now a.found _ _ c.in-BadRecord.is (prints-typed (ending_line bad_record) a.line.now _ _ (omega arith) c.requires.1 c.copy.ensures)
