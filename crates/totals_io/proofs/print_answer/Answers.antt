use mathlib.Core.Path.{refl, ◌∙◌}
use native.Mathlib.Omega.{arith}
use lib.ListN.{length}
use borrow.Author.Tests.{le-leb}
use Rattle.totals_io.proofs.Lots.{typed-size}
use Rattle.totals_io.proofs.print_answer.Goals as goal

pub returns : goal.returns
returns g c =
    let w = c.write_answer-n in
    let size = typed-size 704 _ _ _ w.result refl w.ensures.1 w.ensures.0 in
    c.print.ensures.0 ∙ rw (le-leb w.result (length w.new.line) (omega (arith, size, w.ensures.1))) size
