use borrow.Author.Rules.{rules}
use Rattle.lines.proofs.record_lines.Printing.{refusal-prints}
use Rattle.lines.proofs.record_lines.refusal_line.Goals as goal

pub returns : goal.returns
returns c =
    let one = c.decimal.ensures in
    let two = c.decimal-2.ensures in
    refusal-prints _ _ _ c.requires c.args.client c.args.number _ _ _ one.short two.short (rw c.new-text.ensures.text at one.text) c.append.ensures.text two.text (search rules)
