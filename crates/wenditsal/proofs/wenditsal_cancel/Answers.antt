use Rattle.calls.proofs.Results.{value-dropped, cancel-answered}
use Rattle.wenditsal.proofs.wenditsal_cancel.Goals as goal

pub returns : goal.returns
returns c =
    cancel-answered _ _ c.decode-record.ensures _ _ _ _ _ c.cancel-reply.ensures (value-dropped _ _ _ _ _ _ c.write_answer.ensures.0 c.write_answer.ensures.2 c.answer_words.ensures)
