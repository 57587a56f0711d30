use mathlib.Core.Path.{◌≡◌}
use lib.ListN.{length}
use Rattle.pixel.specs.declared.format.Format.TheVariants.{Argb8888}
use Rattle.row_pixels.specs.Row.{word_colour}
use Rattle.fetch_rows.proofs.words.RowPrefix.{prefix}
use Rattle.fetch_rows.proofs.words.fill_words.Given as goal

abbrev pub invariant-loop-x : goal.invariant-loop-x
invariant-loop-x l =
    (l.row ≡ prefix Argb8888 (λ x. word_colour l.word) l.x l.initial.row) × (length l.row ≡ length l.initial.row)
