use Rattle.submission.proofs.finished.Goals as goal

pub returns : goal.returns
returns c = rw c.requires.0 at c.with_batch.ensures
