use native.Mathlib.Omega.{arith}
use Rattle.ppm.proofs.Texts.{number_whole, number_part, number_empty}
use Rattle.ppm.proofs.words.number_of.Goals.{else-not-is_empty-via-then-not-is_empty+else-numeral-text, else-not-is_empty-via-else-not-is_empty}
use Rattle.ppm.proofs.words.number_of.Goals as goal

pub overflow_cast-result : goal.overflow_cast-result
overflow_cast-result c =
    let read = c.read-numeral in
    omega (arith, (number_whole c.args.text.now read.result read.ensures.0 (grind arith) (omega arith)).1)

pub returns-then-numeral-text : goal.returns-then-numeral-text
returns-then-numeral-text c =
    let read = c.read-numeral in
    (number_whole c.args.text.now read.result read.ensures.0 (grind arith) (omega arith)).0

pub returns-else-not-is_empty : goal.returns-else-not-is_empty
returns-else-not-is_empty c =
    let read = c.read-numeral in
    elim c.else-not-is_empty.branch [
      | else-not-is_empty-via-then-not-is_empty+else-numeral-text w ↦ number_part c.args.text.now read.result read.ensures.0 (λ e. w.if-numeral-text.false e)
      | else-not-is_empty-via-else-not-is_empty w ↦ number_empty c.args.text.now (grind arith)
    ]
