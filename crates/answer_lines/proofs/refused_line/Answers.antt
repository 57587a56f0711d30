use borrow.Author.Rules.{rules}
use Rattle.answer_lines.proofs.Typed.{refused_types}
use Rattle.answer_lines.proofs.refused_line.Goals as goal

pub returns : goal.returns
returns c =
    let number = c.decimal.ensures in
    refused_types _ _ _ c.args.refusal _ _ _ c.number.ensures number.short (rw c.new-text.ensures.text at c.append.ensures.text) number.text (search rules)
