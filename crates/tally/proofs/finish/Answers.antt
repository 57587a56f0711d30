use mathlib.Core.Path.{refl}
use borrow.Author.Tests.{not-true, not-false}
use Rattle.tally.proofs.Files.{ends-large, ends-small}
use Rattle.tally.proofs.finish.Goals as goal

pub returns-then-not-running : goal.returns-then-not-running
returns-then-not-running c =
    let a = c.args in
    let over = not-true a.tally.running.fits c.if-not-running.true in
    (rw over, λ totals seen held S. ends-large totals seen held a.tally S over)

pub returns : goal.returns
returns c =
    let a = c.args in
    let fits = not-false a.tally.running.fits c.if-not-running.false in
    (rw fits, λ totals seen held S. ends-small totals seen held a.tally S _ refl fits)
