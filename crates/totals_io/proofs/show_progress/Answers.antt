use mathlib.Core.Path.{refl, sym}
use native.Mathlib.Omega.{arith}
use lib.Seq.{length-take-le}
use Rattle.totals_io.proofs.Lots.{typed-size}
use Rattle.totals_io.proofs.show_progress.Goals as goal

pub slice_bounds-line-end : goal.slice_bounds-line-end
slice_bounds-line-end g c =
    let w = c.write_progress-n in
    omega (arith, typed-size 64 _ _ _ w.result refl w.ensures.1 w.ensures.0, w.ensures.1)

pub slice_bounds-write_all-end : goal.slice_bounds-write_all-end
slice_bounds-write_all-end g c =
    let w = c.write_progress-n in
    sym (length-take-le w.result w.new.line (omega (arith, typed-size 64 _ _ _ w.result refl w.ensures.1 w.ensures.0, w.ensures.1)))

pub returns : goal.returns
returns g c =
    let w = c.write_progress-n in
    typed-size 64 _ _ _ w.result refl w.ensures.1 w.ensures.0
