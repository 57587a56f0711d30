use Rattle.lanes.proofs.Passes.{none_done, to_end}
use Rattle.unpremultiply.proofs.Pixels.{divided_more}
use Prim.Native.Nat.{◌*◌}
use native.Mathlib.Omega.{arith}
use borrow.Author.Rules.{rules}
use Rattle.unpremultiply.proofs.divide_row.Goals as goal

pub loop-x-init : goal.loop-x-init
loop-x-init c = record { same_length = search rules; divided = none_done _ _ _ }

pub loop-x-preserved : goal.loop-x-preserved
loop-x-preserved c = record { same_length = search rules; divided = divided_more _ _ _ c.loop-x.x c.loop-x.invariant.divided c.divide_pixel.ensures }

pub returns : goal.returns
returns c = to_end _ _ _ _ (c.loop-x.x * 4) _ (omega arith) c.loop-x.invariant.divided
