use mathlib.Core.Path.{ap, ◌∙◌}
use Rattle.row_pixels.specs.Row.{word_colour}
use Rattle.fetch_rows.proofs.words.Moved.{word_loaded}
use Rattle.fetch_rows.proofs.words.load_word.Goals as goal

pub returns : goal.returns
returns c =
    ap word_colour c.read_le32.ensures ∙ word_loaded c.args.memory.now c.args.at c.requires
