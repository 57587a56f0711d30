use mathlib.Core.Path.{refl, sym, ◌∙◌}
use mathlib.Core.Bool.{false≢true}
use borrow.Author.Tests.{not-true, not-false}
use Rattle.totals_io.proofs.add_reading.Goals as goal

pub returns-then-not-reading : goal.returns-then-not-reading
returns-then-not-reading c = (λ e. absurd (false≢true (sym (not-true _ c.if-not-reading.true) ∙ e)), λ e. refl)

pub returns : goal.returns
returns c =
    let good = not-false _ c.if-not-reading.false in
    (λ e. c.add.ensures, λ e. absurd (false≢true (sym e ∙ good)))
