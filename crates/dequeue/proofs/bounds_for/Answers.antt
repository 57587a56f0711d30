use Rattle.dequeue.proofs.bounds_for.Goals as goal

pub returns : goal.returns
returns c = (rw c.window_of.ensures.0, c.window_of.ensures.1)
