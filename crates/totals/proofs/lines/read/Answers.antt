use mathlib.Core.Path.{refl, sym, ap}
use native.Mathlib.Omega.{arith}
use lib.ListN.{length}
use lib.Seq.{length-take-le}
use Rattle.totals.proofs.lines.Lines.{lines-size, lines-typed}
use Rattle.totals.proofs.lines.Finding.{reads_by, reads_none}
use Rattle.totals.proofs.lines.read.Goals as goal

pub returns-then-text-gt672 : goal.returns-then-text-gt672
returns-then-text-gt672 c = reads_none _ _ (λ own O e. omega (arith, lines-size own.counts O, ap length e, c.if-text-gt672.true))

pub slice_bounds-line-end : goal.slice_bounds-line-end
slice_bounds-line-end c =
    let w = c.write-n in
    let typed = lines-typed _ _ _ _ w.ensures.1 refl w.ensures.0 in
    omega (arith, typed.0)

pub slice_bounds-same-end : goal.slice_bounds-same-end
slice_bounds-same-end c =
    let w = c.write-n in
    let typed = lines-typed _ _ _ _ w.ensures.1 refl w.ensures.0 in
    sym (length-take-le w.result _ (omega (arith, typed.0)))

pub returns : goal.returns
returns c =
    let w = c.write-n in
    let typed = lines-typed _ _ _ _ w.ensures.1 refl w.ensures.0 in
    reads_by _ _ c.find_totals-totals.ensures w.ensures.2 _ c.same-ok.result typed.1 c.same-ok.ensures.0 c.same-ok.ensures.1
