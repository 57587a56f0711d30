use Rattle.tally_pieces.proofs.add_unscored.Goals as goal

pub returns-in-First : goal.returns-in-First
returns-in-First c = rw c.in-First.is c.add.ensures
