use mathlib.Core.Path.{ap, ◌∙◌}
use native.Mathlib.Omega.{arith}
use Rattle.division.specs.Division.{div255}
use Rattle.division.proofs.Division.{division}
use Rattle.pixel.proofs.blend.AlphaMode.alpha.Goals as goal

-- a product of two bytes is divided exactly
pub returns-in-Mixed : goal.returns-in-Mixed
returns-in-Mixed c =
    rw c.in-Mixed.is
    (c.div_255.ensures ∙ division.exact c.product.result (omega (arith, c.product.ensures.1)) ∙ ap div255 c.product.ensures.0)
