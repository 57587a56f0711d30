use Rattle.calls.proofs.Results.{value-dropped, close-answered}
use Rattle.wenditsal.proofs.wenditsal_close.Goals as goal

pub returns : goal.returns
returns c =
    close-answered _ _ c.decode-record.ensures _ _ _ _ _ _ _ c.close-reply.ensures.0 c.close-reply.ensures.1 (value-dropped _ _ _ _ _ _ c.write_answer.ensures.0 c.write_answer.ensures.2 c.answer_words.ensures)
