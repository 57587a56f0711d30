use mathlib.Core.Path.{ap, ◌∙◌}
use native.Mathlib.Omega.{arith}
use Rattle.transform.proofs.Inside.{mirrored-below}
use Rattle.surface.specs.Surface.{row_start}
use Rattle.row_pixels.proofs.Straight.{first-of-row}
use Rattle.row_pixels.proofs.source.identity_row_start.Goals as goal

pub overflow_cast-i : goal.overflow_cast-i
overflow_cast-i c =
    omega (arith, c.mirror-i.ensures, mirrored-below c.args.transform.flip.vertical c.args.s.height c.args.y c.requires.2)

pub returns : goal.returns
returns c =
    let a = c.args in
    c.row_start.ensures ∙ (ap (row_start a.s) c.mirror-i.ensures ∙ first-of-row a.s a.transform c.requires.0 c.requires.1 a.y)
