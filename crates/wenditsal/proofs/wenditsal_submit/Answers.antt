use Rattle.calls.proofs.Results.{value-written, submit-answered}
use Rattle.wenditsal.proofs.wenditsal_submit.Goals as goal

pub returns : goal.returns
returns c =
    submit-answered _ _ c.decode-record.ensures _ _ _ _ _ _ _ _ c.submit-reply.ensures.0 c.submit-reply.ensures.1 (value-written _ _ _ _ _ _ c.write_answer-number.ensures.0 c.write_answer-number.ensures.2 _ c.answer_words-words.ensures c.write_answer-number.ensures.1)
