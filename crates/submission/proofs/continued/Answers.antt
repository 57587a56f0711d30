use Rattle.submission.proofs.continued.Goals as goal

pub returns : goal.returns
returns c = c.with_staged.ensures
