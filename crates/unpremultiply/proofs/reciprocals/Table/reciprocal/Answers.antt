use Rattle.unpremultiply.proofs.Entries.{reciprocal_small}
use mathlib.Core.Path.{sym, subst}
use Prim.Native.Nat.{ℕ, ◌≤◌}
use native.Mathlib.Omega.{arith}
use Rattle.unpremultiply.proofs.reciprocals.Table.reciprocal.Goals as goal

pub returns : goal.returns
returns c =
    let e = c.args.self.now.right.1 c.args.a (omega arith) in
    (e, subst (λ (t : ℕ). t ≤ 16711680) (sym e) (reciprocal_small c.args.a))
