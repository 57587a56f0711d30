use Rattle.calls.proofs.Results.{pending-answered}
use Rattle.wenditsal.proofs.wenditsal_pending.Goals as goal

pub returns : goal.returns
returns c = pending-answered _ _ c.decode-record.ensures _ _ _ c.pending.ensures c.answer_words-words.ensures
