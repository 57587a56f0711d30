use native.Mathlib.Omega.{arith}
use lib.ListN.{length-set}
use Rattle.totals.proofs.lines.Finding.{going_more}
use Rattle.totals.proofs.lines.find_totals.Goals as goal

pub loop-k-preserved : goal.loop-k-preserved
loop-k-preserved c =
    let l = c.loop-k in
    let size = c.label_size.ensures in
    let read = c.read-numeral in
    record {
      sized = simp length-set l.invariant.sized;
      bounded = omega (arith, read.ensures.1, size.1, l.invariant.bounded, c.requires);
      going = λ own O e. going_more _ _ own l.at l.k O c.loop-k-test.true l.invariant.sized (l.invariant.going own O e) read.result (rw size.0 at read.ensures.0);
    }
