use native.Mathlib.Omega.{arith}
use borrow.Author.Tests.{eq-eqb, ne_eqb}
use Rattle.provenance.proofs.explain.onward.Goals as goal

pub returns-then-group-eq0 : goal.returns-then-group-eq0
returns-then-group-eq0 c = (rw (eq-eqb c.args.group.left 0 c.if-group-eq0.true), omega arith)

pub returns : goal.returns
returns c =
    (rw (ne_eqb c.args.group.left 0 c.if-group-eq0.false), omega arith)
