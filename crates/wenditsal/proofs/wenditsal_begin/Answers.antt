use Rattle.calls.proofs.Results.{value-dropped, begin-answered}
use Rattle.wenditsal.proofs.wenditsal_begin.Goals as goal

pub returns : goal.returns
returns c =
    begin-answered _ _ c.decode-record.ensures _ _ _ _ _ _ _ c.begin-reply.ensures (value-dropped _ _ _ _ _ _ c.write_answer.ensures.0 c.write_answer.ensures.2 c.answer_words.ensures)
