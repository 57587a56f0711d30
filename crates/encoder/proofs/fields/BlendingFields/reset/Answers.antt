use Rattle.encoder.proofs.fields.BlendingFields.reset.Goals as goal

pub returns-in-Unblended : goal.returns-in-Unblended
returns-in-Unblended c = rw c.in-Unblended.is

pub returns-in-SrcOver : goal.returns-in-SrcOver
returns-in-SrcOver c = rw c.in-SrcOver.is
