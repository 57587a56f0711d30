use Rattle.wenditsal.proofs.wenditsal_encode.Goals as goal

pub returns : goal.returns
returns c = (rw (c.refusal_number.ensures, c.encode.ensures.0), c.encode.ensures.1)
