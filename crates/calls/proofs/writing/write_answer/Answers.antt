use mathlib.Core.Path.{◌≡◌, refl, sym, ap, ◌∙◌}
use Prim.Native.Nat.{ℕ, ◌+◌, ◌-◌}
use native.Mathlib.Omega.{arith}
use lib.ListN.{take, drop}
use Rattle.calls.proofs.Results.{unless_not, unless_zero}
use Rattle.calls.proofs.writing.write_answer.Goals.{then-words-eq0, else-words-eq0}
use Rattle.calls.proofs.writing.write_answer.Goals as goal

pub returns : goal.returns
returns g c =
    let all : (1 + g.row.N) - 1 ≡ g.row.N = omega arith in (
      refl,
      c.copy_from_slice.ensures.after ∙ ap (λ (k : ℕ). take k (drop 1 c.args.words)) all,
      elim c.if-words-eq0.branch [
        | then-words-eq0 w ↦ w.bytes-is ∙ w.encode.ensures ∙ sym (unless_zero _ _ _ w.if-words-eq0.true)
        | else-words-eq0 w ↦ w.bytes-is ∙ sym (unless_not _ _ _ w.if-words-eq0.false)
      ],
    )
