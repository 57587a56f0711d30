use Rattle.wenditsal.proofs.wenditsal_encode_shaded.Goals as goal

pub returns : goal.returns
returns c = (rw (c.refusal_number.ensures, c.encode_shaded.ensures.0), c.encode_shaded.ensures.1)
