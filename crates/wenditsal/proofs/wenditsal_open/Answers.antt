use Rattle.calls.proofs.Results.{value-written, open_answered}
use Rattle.wenditsal.proofs.wenditsal_open.Goals as goal

pub returns : goal.returns
returns c =
    open_answered _ _ c.decode-record.ensures _ _ _ _ _ c.open-reply.ensures (value-written _ _ _ _ _ _ c.write_answer-number.ensures.0 c.write_answer-number.ensures.2 _ c.answer_words-words.ensures c.write_answer-number.ensures.1)
