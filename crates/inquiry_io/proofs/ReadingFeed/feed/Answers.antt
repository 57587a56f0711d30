use Rattle.inquiry_io.proofs.ReadingFeed.feed.Goals as goal

pub returns : goal.returns
returns g c = λ q a. record { same = a.same; reached = record { seen = _; stands = c.feed_piece-self.ensures a.reached.seen a.reached.stands } }
