use mathlib.Core.Path.{◌≡◌}
use borrow.Author.Rules.{rules}
use Rattle.totals.proofs.lines.Lines.{typed_three, answer-added, answer-refused}
use Rattle.totals.proofs.lines.write_answer.Goals as goal

pub returns-then-answer-eq0 : goal.returns-then-answer-eq0
returns-then-answer-eq0 c =
    let w = c.write-n in
    answer-added _ _ c.args.answer w.ensures.0 w.ensures.1 c.if-answer-eq0.true

pub returns : goal.returns
returns c =
    let w = c.write-n in
    let d = c.decimal-b in
    let refused : c.args.answer.refusal ≡ 0 → ⊥ = search rules in
    answer-refused _ _ c.args.answer w.ensures.0 w.ensures.1 refused d.ensures.1 _
    (typed_three _ _ _ _ _ _ 10 c.append-a.ensures d.ensures.0 c.push.ensures)
