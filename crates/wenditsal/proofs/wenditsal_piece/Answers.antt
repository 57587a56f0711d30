use Rattle.calls.proofs.Results.{two-written, piece-answered}
use Rattle.wenditsal.proofs.wenditsal_piece.Goals as goal

pub returns : goal.returns
returns c =
    piece-answered _ _ c.decode-record.ensures _ _ _ _ _ _ _ _ c.piece-reply.ensures.0 c.piece-reply.ensures.1 (two-written _ _ _ _ _ _ c.write_answer.ensures.0 c.write_answer.ensures.2 _ c.piece_words.ensures c.write_answer.ensures.1)
