use Rattle.tally_io.specs.Kinds.{AddsOf}
use Rattle.tally_io.proofs.files.add_argument.Goals as goal

pub returns-then-lots : goal.returns-then-lots
unfolding AddsOf
returns-then-lots g c = rw c.if-lots.true c.add_argument.ensures

pub returns : goal.returns
unfolding AddsOf
returns g c = rw c.if-lots.false c.add_argument-2.ensures
