use Rattle.engine.proofs.answers.answer_words.Goals as goal

pub returns : goal.returns
returns c = rw c.piece_words-words.ensures
