use Rattle.std.proofs.Common.{arith, eq-eqb, ne_eqb}
use Rattle.queue.proofs.enqueue.staged_slots.Goals as goal

pub returns-then-staged-eq0 : goal.returns-then-staged-eq0
returns-then-staged-eq0 c = (rw (eq-eqb _ _ c.if-staged-eq0.true), omega arith)

pub returns-else-staged-eq0 : goal.returns-else-staged-eq0
returns-else-staged-eq0 c = (rw (ne_eqb _ _ c.if-staged-eq0.false), omega arith)
