use mathlib.Core.Path.{ap, ◌∙◌}
use native.Mathlib.Omega.{arith}
use Rattle.row_pixels.specs.Row.{word_colour}
use Rattle.pixel.proofs.Kept.{word-colour}
use Rattle.fetch_rows.proofs.words.word_of.Goals as goal

pub returns : goal.returns
returns c =
    ap word_colour c.pack.ensures
    ∙ word-colour c.args.c (record { alpha = omega arith; red = omega arith; green = omega arith; blue = omega arith })
