use mathlib.Core.Path.{ap, ◌∙◌}
use Prim.Native.Nat.{ℕ}
use native.Mathlib.Omega.{arith}
use Rattle.transform.proofs.Inside.{mirrored-below}
use Rattle.pixel.specs.Gradient.{gradient_colour}
use Rattle.unblended_rows.proofs.shaded_colour.Goals as goal

pub overflow_cast-i : goal.overflow_cast-i
overflow_cast-i c =
    let a = c.args in
    let l = mirrored-below a.source.transform.flip.vertical a.source.surface.height a.y c.requires in
    omega (arith, c.mirror-i.ensures)

pub returns : goal.returns
returns c =
    let a = c.args in
    c.colour_at.ensures ∙ ap (λ (i : ℕ). gradient_colour a.source.colour a.source.steps i) c.mirror-i.ensures
