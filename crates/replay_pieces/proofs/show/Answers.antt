use Rattle.replay_pieces.proofs.show.Goals as goal

pub returns-then-shows : goal.returns-then-shows
returns-then-shows g c = rw c.if-shows.true c.print.ensures.0
