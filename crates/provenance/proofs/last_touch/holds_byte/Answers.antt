use Rattle.provenance.proofs.Holds.{holds-none, some-stride, from_start, holds-some}
use Rattle.provenance.proofs.last_touch.holds_byte.Goals as goal

pub returns-then-stride-i : goal.returns-then-stride-i
returns-then-stride-i c = let a = c.args in holds-none a.s a.i c.if-stride-i.true

pub overflow_sub-from : goal.overflow_sub-from
overflow_sub-from c = let a = c.args in from_start a.s a.i c.if-stride-i.false

pub nonzero_div-result : goal.nonzero_div-result
nonzero_div-result c = let a = c.args in some-stride a.s a.i c.if-stride-i.false

pub nonzero_rem-result : goal.nonzero_rem-result
nonzero_rem-result c = let a = c.args in some-stride a.s a.i c.if-stride-i.false

pub returns : goal.returns
returns c =
    let a = c.args in rw c.row_length.ensures (holds-some a.s a.i c.if-stride-i.false)
