use Rattle.tally_pieces.proofs.add_task.Goals as goal

pub returns : goal.returns
returns c = rw (c.add.ensures, c.add-two.ensures, c.add-one.ensures, c.pixels_if-blended.ensures, c.pixels_of-pixels.ensures)
