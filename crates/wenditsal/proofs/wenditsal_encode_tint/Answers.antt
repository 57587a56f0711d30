use Rattle.wenditsal.proofs.wenditsal_encode_tint.Goals as goal

pub returns : goal.returns
returns c = (rw (c.refusal_number.ensures, c.encode_tint.ensures.0), c.encode_tint.ensures.1)
