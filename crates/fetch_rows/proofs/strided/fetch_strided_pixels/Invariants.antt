use mathlib.Core.Path.{◌≡◌}
use lib.ListN.{length}
use Rattle.surface.specs.Drawn.{load_pixel}
use Rattle.row_pixels.specs.Row.{HoldsColours}
use Rattle.row_pixels.specs.Strided.{strided_address}
use Rattle.fetch_rows.proofs.strided.fetch_strided_pixels.Given as goal

abbrev pub invariant-loop-x : goal.invariant-loop-x
invariant-loop-x l =
    HoldsColours l.buffer l.x (λ x. load_pixel l.format l.memory (strided_address l.start l.step l.back x)) × (length l.buffer ≡ length l.initial.buffer)
