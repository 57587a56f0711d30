use Rattle.wenditsal.proofs.wenditsal_play.Goals as goal

pub returns : goal.returns
returns c =
    rw c.from.ensures at c.play.ensures
