use Rattle.calls.proofs.Results.{value-dropped, set-up-answered, set-up_lent}
use Rattle.wenditsal.proofs.wenditsal_set_up.Goals as goal

pub returns-then-engine-ne272 : goal.returns-then-engine-ne272
returns-then-engine-ne272 c = set-up_lent _ _ _ _ _ c.if-engine-ne272.true

pub returns : goal.returns
returns c =
    rw c.from.ensures at (set-up-answered _ _ _ _ _ _ _ _ _ c.if-engine-ne272.false c.set_up-reply.ensures (value-dropped _ _ _ _ _ _ c.write_answer.ensures.0 c.write_answer.ensures.2 c.answer_words.ensures))
