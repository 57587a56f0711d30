use Rattle.totals.proofs.Adding.{sum_none}
use Rattle.totals.proofs.add_counts.Goals as goal

pub returns-in_err-sum : goal.returns-in_err-sum
returns-in_err-sum c =
    rw c.from_residual.ensures (sum_none c.args.counts c.args.more c.loop-k.k c.checked_add.result c.loop-k-test.true c.checked_add.ensures c.in_err-sum.was)
