use Rattle.answer_lines.proofs.Typed.{detail_typed}
use Rattle.answer_lines.proofs.detail_text.Goals as goal

pub returns-in-Some-clause-text : goal.returns-in-Some-clause-text
returns-in-Some-clause-text c =
    rw c.in-Some.is (detail_typed _ _ _ _ _ _ c.push.ensures.text c.hex.ensures.text c.push-in-Some.ensures.text c.hex-in-Some.ensures.text)
