use Rattle.pixel.specs.declared.blend.AlphaMode.TheVariants.{Global}
use Rattle.lanes.proofs.Passes.{none_done, to_end}
use Rattle.composite.proofs.alpha_modes.Alphas.{pixel_more}
use Prim.Native.Nat.{◌*◌}
use mathlib.Core.Path.{refl}
use native.Mathlib.Omega.{arith}
use borrow.Author.Rules.{rules}
use Rattle.composite.proofs.alpha_modes.set_alphas.Goals as goal

pub loop-x-init : goal.loop-x-init
loop-x-init c = (search rules, none_done _ _ _)

pub loop-x-preserved : goal.loop-x-preserved
loop-x-preserved c =
    let l = c.loop-x in
    (search rules, rw c.set_alpha.ensures (pixel_more Global _ _ l.row l.x _ (omega arith) refl l.invariant.1))

pub returns : goal.returns
returns c = to_end _ _ _ _ (c.loop-x.x * 4) _ (omega arith) c.loop-x.invariant.1
