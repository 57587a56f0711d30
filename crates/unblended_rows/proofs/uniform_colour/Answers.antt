use mathlib.Core.Path.{sym, ap, ◌∙◌}
use Rattle.register.specs.declared.task.SourceMode.{SourceMode}
use Rattle.raster.specs.Row.{uniform_colour}
use Rattle.unblended_rows.proofs.uniform_colour.Goals as goal

pub returns-in-GradientY : goal.returns-in-GradientY
returns-in-GradientY c =
    let a = c.args in
    c.shaded_colour.ensures ∙ sym (ap (λ (m : SourceMode). uniform_colour m a.source a.y) c.in-GradientY.is)
