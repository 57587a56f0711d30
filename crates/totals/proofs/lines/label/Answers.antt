use borrow.Author.Tests.{eq-eqb, ne_eqb}
use Rattle.totals.specs.Lines.{label_of}
use Rattle.totals.proofs.lines.Lines.{typed_three}
use Rattle.totals.proofs.lines.label.Goals as goal

pub returns-then-k-eq0 : goal.returns-then-k-eq0
unfolding label_of
returns-then-k-eq0 c =
    rw (eq-eqb _ 0 c.if-k-eq0.true) c.append.ensures

pub returns-then-k-eq1 : goal.returns-then-k-eq1
unfolding label_of
returns-then-k-eq1 c =
    rw (ne_eqb _ 0 c.if-k-eq0.false, eq-eqb _ 1 c.if-k-eq1.true) c.append-then-k-eq1.ensures

pub returns-then-k-eq2 : goal.returns-then-k-eq2
unfolding label_of
returns-then-k-eq2 c =
    rw (ne_eqb _ 0 c.if-k-eq0.false, ne_eqb _ 1 c.if-k-eq1.false, eq-eqb _ 2 c.if-k-eq2.true) c.append-then-k-eq2.ensures

pub returns-then-k-eq3 : goal.returns-then-k-eq3
unfolding label_of
returns-then-k-eq3 c =
    rw (ne_eqb _ 0 c.if-k-eq0.false, ne_eqb _ 1 c.if-k-eq1.false, ne_eqb _ 2 c.if-k-eq2.false, eq-eqb _ 3 c.if-k-eq3.true) c.append-then-k-eq3.ensures

pub returns-then-k-eq13 : goal.returns-then-k-eq13
unfolding label_of
returns-then-k-eq13 c =
    rw (ne_eqb _ 0 c.if-k-eq0.false, ne_eqb _ 1 c.if-k-eq1.false, ne_eqb _ 2 c.if-k-eq2.false, ne_eqb _ 3 c.if-k-eq3.false, eq-eqb _ 13 c.if-k-eq13.true) c.append-then-k-eq13.ensures

pub returns : goal.returns
unfolding label_of
returns c =
    rw (ne_eqb _ 0 c.if-k-eq0.false, ne_eqb _ 1 c.if-k-eq1.false, ne_eqb _ 2 c.if-k-eq2.false, ne_eqb _ 3 c.if-k-eq3.false, ne_eqb _ 13 c.if-k-eq13.false) (typed_three _ _ _ _ _ _ 32 c.append-a.ensures c.decimal-b.ensures.0 c.push.ensures)
