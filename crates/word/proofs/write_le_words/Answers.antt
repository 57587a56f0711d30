use mathlib.Core.Path.{refl, ◌∙◌}
use native.Mathlib.Omega.{arith}
use borrow.Author.Rules.{rules}
use Rattle.word.proofs.Written.{write_none, write_next}
use Rattle.word.proofs.write_le_words.Goals as goal

pub loop-k-init : goal.loop-k-init
loop-k-init c = let a = c.args in (refl, write_none a.at a.words.now a.bytes.now)

pub loop-k-preserved : goal.loop-k-preserved
loop-k-preserved c =
    let a = c.args in (
      search rules,
      c.write_le32.ensures
          ∙ write_next a.at c.loop-k.k a.words.now a.bytes.now c.loop-k.bytes (omega arith) (omega arith) c.loop-k.invariant.1,
    )
