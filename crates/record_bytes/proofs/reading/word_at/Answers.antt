use Rattle.word.proofs.Words.{get_or-words}
use native.Mathlib.Omega.{arith}
use mathlib.Core.Path.{sym, ◌∙◌}
use Rattle.record_bytes.proofs.reading.word_at.Goals as goal

pub returns : goal.returns
returns c = c.read_le32.ensures ∙ sym (get_or-words c.args.k c.args.bytes.now (omega arith))
