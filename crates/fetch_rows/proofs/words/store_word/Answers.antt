use mathlib.Core.Path.{◌∙◌}
use native.Mathlib.Omega.{arith}
use Rattle.fetch_rows.proofs.words.Moved.{word_stored}
use Rattle.fetch_rows.proofs.words.store_word.Goals as goal

pub returns : goal.returns
returns c =
    c.write_le32.ensures ∙ word_stored c.args.row.now c.args.at c.args.word c.requires (omega arith)
