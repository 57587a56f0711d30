use mathlib.Core.Path.{◌≡◌}
use Rattle.replay.proofs.Opening.{opened_first}
use Rattle.replay.proofs.start.Given as goal

abbrev pub invariant-loop-client : goal.invariant-loop-client
invariant-loop-client l = l.engine ≡ opened_first l.edition l.client
