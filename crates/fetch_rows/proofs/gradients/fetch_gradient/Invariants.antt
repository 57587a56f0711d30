use mathlib.Core.Path.{◌≡◌}
use lib.ListN.{length}
use Rattle.transform.specs.Transform.{mirrored}
use Rattle.pixel.specs.Gradient.{gradient_colour}
use Rattle.row_pixels.specs.Row.{HoldsColours}
use Rattle.fetch_rows.proofs.gradients.fetch_gradient.Given as goal

abbrev pub invariant-loop-x : goal.invariant-loop-x
invariant-loop-x l =
    HoldsColours l.buffer l.x (λ x. gradient_colour l.start l.steps (mirrored l.flipped l.n x)) × (length l.buffer ≡ length l.initial.buffer)
