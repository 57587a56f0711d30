use mathlib.Core.Path.{sym, ap, ◌∙◌}
use lib.ListN.{length}
use Rattle.ring.proofs.Segment.{lies_in, count-words, no_words}
use Rattle.ring.proofs.Reader.word_count.Goals as goal

pub returns-then-lies_in : goal.returns-then-lies_in
returns-then-lies_in c =
    let a = c.args in
    sym (count-words a.self.ring.now a.self.offset a.self.size (lies_in a.self.ring.now a.self.offset a.self.size (sym c.lies_in.ensures ∙ c.if-lies_in.true)))

pub returns-else-lies_in : goal.returns-else-lies_in
returns-else-lies_in c =
    let a = c.args in
    sym (ap length (no_words a.self.ring.now a.self.offset a.self.size (sym c.lies_in.ensures ∙ c.if-lies_in.false)))
