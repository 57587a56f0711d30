use borrow.Author.Rules.{rules}
use Rattle.answer_lines.proofs.Typed.{touch_types}
use Rattle.answer_lines.proofs.touch_line.Goals as goal

pub returns : goal.returns
returns c =
    let ticket = c.decimal.ensures in
    let number = c.field.ensures in
    let mode = c.field-2.ensures in
    touch_types _ _ _ c.args.touch _ _ _ _ c.mode_number.ensures ticket.short number.short mode.short (rw c.new-text.ensures.text at ticket.text) number.text mode.text (search rules)
