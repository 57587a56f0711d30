use mathlib.Core.Path.{◌≡◌}
use lib.ListN.{length}
use Rattle.fetch_rows.proofs.words.RowPrefix.{prefix}
use Rattle.scanline.proofs.fill_pixels.Given as goal

abbrev pub invariant-loop-x : goal.invariant-loop-x
invariant-loop-x l =
    (l.row ≡ prefix l.format (λ x. l.c) l.x l.initial.row) × (length l.row ≡ length l.initial.row)
