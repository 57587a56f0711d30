use borrow.Author.Rules.{rules}
use Rattle.answer_lines.proofs.Typed.{explanation_types}
use Rattle.answer_lines.proofs.explanation_line.Goals as goal

pub returns : goal.returns
returns c =
    let fault = c.decimal.ensures in
    let place = c.field.ensures in
    let detail = c.detail_text.ensures in
    explanation_types _ _ _ c.args.explanation _ _ _ _ _ _ c.number.ensures fault.short place.short detail.short (rw c.new-text.ensures.text at fault.text) place.text c.push.ensures.text c.hex.ensures.text detail.text (search rules)
