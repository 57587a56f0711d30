use Rattle.tally_pieces.proofs.add_found.Goals as goal

pub add_record-requires : goal.add_record-requires
add_record-requires c = rw c.in-Record.is at c.requires

pub returns-in-Record : goal.returns-in-Record
returns-in-Record c = rw c.in-Record.is c.add_record.ensures
