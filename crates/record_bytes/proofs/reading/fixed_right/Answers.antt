use Rattle.record_bytes.specs.Read.{fixed_right}
use Rattle.record_bytes.proofs.reading.fixed_right.Goals as goal

pub returns : goal.returns
unfolding fixed_right
returns c =
    simp (c.word_at-6.ensures, c.word_at-5.ensures, c.word_at-4.ensures, c.word_at-3.ensures, c.word_at-2.ensures, c.word_at.ensures)
