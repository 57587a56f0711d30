use mathlib.Core.Path.{refl, ap, ◌∙◌}
use mathlib.Core.List.{List}
use Prim.Native.Nat.{ℕ}
use native.Mathlib.Omega.{arith}
use lib.ListN.{get_or, set, length-set}
use Rattle.ring.proofs.Copied.{copy_more, copy-all}
use Rattle.ring.proofs.copy.Goals as goal

pub loop-i-init : goal.loop-i-init
loop-i-init c = record { same_length = refl; copied = refl }

pub loop-i-preserved : goal.loop-i-preserved
loop-i-preserved c =
    let to = c.args.to.now in
    let from = c.args.from.now in
    let i = c.loop-i.i in record {
      same_length = simp length-set c.loop-i.invariant.same_length;
      copied = ap (λ (l : List ℕ). set l i (get_or from i 0)) c.loop-i.invariant.copied ∙ copy_more to from i (omega arith) (omega arith);
    }

pub returns : goal.returns
returns c =
    c.loop-i.invariant.copied ∙ copy-all c.args.to.now c.args.from.now c.loop-i.i (omega arith) (omega arith)
