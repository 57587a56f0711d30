use Rattle.lanes.proofs.Passes.{none_done}
use Rattle.row_pixels.proofs.RowColours.Colours.{Row}
use Rattle.row_pixels.proofs.RowColours.Stored.{row_done}
use Rattle.convert.proofs.rgb888.Pixels.{opaque-more}
use mathlib.Core.Path.{◌∙◌}
use native.Mathlib.Omega.{arith}
use borrow.Author.Rules.{rules}
use lib.ListN.{length-set}
use Rattle.convert.proofs.rgb888.from_888.Goals as goal

pub loop-x-init : goal.loop-x-init
loop-x-init c = (search rules, none_done _ _ _)

pub loop-x-preserved : goal.loop-x-preserved
loop-x-preserved c =
    let p = c.put_three in
    let in-s : Row c.args.s.now = λ j. omega (arith, c.shared_slice_known-1.given j) in
    (simp length-set (p.auto.d ∙ c.loop-x.invariant.0), opaque-more c.args.s.now c.args.d.now c.loop-x.d p.new.d c.loop-x.x in-s (omega arith) (omega (arith, p.auto.d, c.loop-x.invariant.0)) p.ensures c.loop-x.invariant.1)

pub returns : goal.returns
returns c = row_done _ _ _ _ _ c.loop-x.invariant.0 (omega arith) c.loop-x.invariant.1
