use mathlib.Core.Path.{sym}
use native.Mathlib.Omega.{arith}
use Rattle.batch.specs.Walk.{words_in}
use Rattle.batch.proofs.DecoderCases.{past}
use Rattle.batch.proofs.decode.next_task.Goals as goal

pub returns-else-k-word_count : goal.returns-else-k-word_count
returns-else-k-word_count c =
    let a = c.args in
    sym (past a.bounds (words_in a.batch) a.bank a.k (omega (arith, c.word_count.ensures, c.if-k-word_count.false)))
