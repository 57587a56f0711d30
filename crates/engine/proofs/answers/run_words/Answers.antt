use mathlib.Core.Path.{◌∙◌}
use Prim.Native.Nat.{◌≤◌}
use native.Mathlib.Omega.{arith}
use Rattle.batch.specs.Batch.{status_word_of, fault_offset_of}
use Rattle.engine.proofs.answers.Numbers.{completed-words, completed-small, word-whole}
use Rattle.engine.proofs.answers.run_words.Goals.{After-offset-offset}
use Rattle.engine.proofs.answers.run_words.Goals as goal

small : (c : After-offset-offset) → (status_word_of c.in-Ok.done.verdict ≤ 4294967295) × (fault_offset_of c.in-Ok.done.verdict ≤ 4294967295)
small c = completed-small _ _ c.in-Ok.is c.requires

pub overflow_cast-offset : goal.overflow_cast-offset
overflow_cast-offset c = omega (arith, c.offset-offset.ensures, (small c).1)

pub returns-in-Ok : goal.returns-in-Ok
returns-in-Ok c = completed-words _ _ _ _ _ c.in-Ok.is (c.status.ensures ∙ word-whole (status_word_of c.in-Ok.done.verdict) (small (goal.at.returns-in-Ok c).After-offset-offset).0) c.number-in-Ok.ensures c.offset-offset.ensures
