use Rattle.replay_pieces.proofs.Reaching.{finishes}
use Rattle.replay_pieces.proofs.finish.Goals as goal

pub returns : goal.returns
returns g c = finishes _ _ _ _ _ _ c.finish-n.ensures c.finish-n.auto.line c.show.ensures
