use Rattle.tally_io.proofs.files.Files.{next-read, next-unread}
use Rattle.tally_io.proofs.files.add_next.Goals as goal

pub returns-then-outcome : goal.returns-then-outcome
returns-then-outcome g c = λ totals number zero F. next-read _ totals number _ _ zero F c.add_argument-outcome.ensures c.if-outcome.true

pub returns : goal.returns
returns g c = λ totals number zero F. next-unread _ totals number _ _ zero F c.add_argument-outcome.ensures c.if-outcome.false
