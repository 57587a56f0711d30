use borrow.Author.Rules.{rules}
use mathlib.Core.Path.{ap, ◌∙◌}
use Rattle.batch.specs.Batch.{status_word_of, fault_number_of, fault_offset_of}
use Rattle.text.specs.Hex.{hex_word}
use Rattle.lines.proofs.record_lines.Printing.{hex_rest, completion-prints}
use Rattle.lines.proofs.record_lines.completion_line.Goals as goal

pub returns : goal.returns
returns c =
    let v = c.args.verdict in
    let client = c.decimal.ensures in
    let ticket = c.field.ensures in
    let fault = c.field-2.ensures in
    let offset = c.field-3.ensures in
    completion-prints _ _ _ c.requires c.args.client c.args.ticket (record { status = status_word_of v; fault = fault_number_of v; offset = fault_offset_of v }) _ _ _ _ _ _ _ _ _
    client.short ticket.short fault.short offset.short (ap hex_word c.status.ensures ∙ hex_rest (status_word_of v)) c.number.ensures c.offset.ensures
    (rw c.new-text.ensures.text at client.text) ticket.text c.push.ensures.text c.hex.ensures.text fault.text offset.text (search rules)
