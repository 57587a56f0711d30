use mathlib.Core.Path.{◌∙◌}
use Rattle.fetch_rows.proofs.strided.load_as_word.Goals as goal

pub load_word-requires : goal.load_word-requires
load_word-requires c = rw c.in-Argb8888.is at c.requires

pub load-requires : goal.load-requires
load-requires c = rw c.in-Rgb888.is at c.requires

pub load-requires-in-Rgb565 : goal.load-requires-in-Rgb565
load-requires-in-Rgb565 c = rw c.in-Rgb565.is at c.requires

pub returns-in-Argb8888 : goal.returns-in-Argb8888
returns-in-Argb8888 c = rw c.in-Argb8888.is c.load_word.ensures

pub returns-in-Rgb888 : goal.returns-in-Rgb888
returns-in-Rgb888 c = rw c.in-Rgb888.is (c.word_of.ensures ∙ c.load.ensures)

pub returns-in-Rgb565 : goal.returns-in-Rgb565
returns-in-Rgb565 c = rw c.in-Rgb565.is (c.word_of-in-Rgb565.ensures ∙ c.load-in-Rgb565.ensures)
