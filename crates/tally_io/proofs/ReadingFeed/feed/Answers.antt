use Rattle.tally_io.proofs.ReadingFeed.feed.Goals as goal

pub returns : goal.returns
returns g c = λ totals r. record { seen = _; stands = c.feed_piece-self.ensures totals r.seen r.stands }
