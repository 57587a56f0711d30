use Rattle.std.proofs.Common.{refl}
use Rattle.replay_pieces.proofs.Reaching.{piece-reached}
use Rattle.replay_io.proofs.ReadingFeed.feed.Goals as goal

pub returns : goal.returns
returns g c = record {
  same = refl;
  size = c.feed_piece-fed.auto.memory;
  shows = refl;
  stood = λ edition engine R. piece-reached edition engine _ _ _ _ _ _ R _ _ _ _ _ _ _ (c.feed_piece-fed.ensures engine R.seen R.text R.stands R.counts);
}
