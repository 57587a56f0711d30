use Rattle.word.specs.Word.{words}
use mathlib.Core.Path.{sym, ◌∙◌}
use Rattle.record_bytes.specs.Layout.{word_at}
use borrow.Author.Tests.{eq-eqb, ne_eqb}
use Rattle.record_bytes.specs.Read.{slot_in}
use Rattle.record_bytes.proofs.reading.slot_in.Goals as goal

pub returns-then-word_at-eq0 : goal.returns-then-word_at-eq0
unfolding slot_in
returns-then-word_at-eq0 c = let a = c.args in simp (eq-eqb (word_at (words a.bytes.now) a.k) 0 (sym c.word_at.ensures ∙ c.if-word_at-eq0.true))

pub returns : goal.returns
unfolding slot_in
returns c = let a = c.args in simp (ne_eqb (word_at (words a.bytes.now) a.k) 0 (λ q. c.if-word_at-eq0.false (c.word_at.ensures ∙ q)), c.batch_in.ensures)
