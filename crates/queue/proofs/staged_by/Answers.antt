use Rattle.std.proofs.Common.{eq-eqb, ne_eqb}
use Rattle.queue.proofs.staged_by.Goals as goal

pub returns-then-staged-eq0 : goal.returns-then-staged-eq0
returns-then-staged-eq0 c = rw (eq-eqb _ _ c.if-staged-eq0.true)

pub returns-else-staged-eq0 : goal.returns-else-staged-eq0
returns-else-staged-eq0 c = rw (ne_eqb _ _ c.if-staged-eq0.false)
