use Rattle.row_pixels.specs.Row.{colour_in}
use Rattle.row_pixels.proofs.RowColours.Colours.{Row}
use Rattle.row_pixels.proofs.RowColours.Stored.{row_done}
use Rattle.convert.proofs.rgb565.Pixels.{two-more, narrow_is}
use mathlib.Core.Path.{◌∙◌}
use native.Mathlib.Omega.{arith}
use borrow.Author.Rules.{rules}
use Rattle.convert.proofs.rgb565.to_565.Goals as goal

pub loop-x-preserved : goal.loop-x-preserved
loop-x-preserved c =
    let s = c.args.s.now in
    let in-s : Row s = λ j. omega (arith, c.shared_slice_known-1.given j) in (
      search rules,
      two-more (λ n. colour_in s n) c.args.d.now c.loop-x.d c.put2.new.d c.loop-x.x c.narrow.result
          (c.narrow.ensures.0 ∙ narrow_is s c.loop-x.x c.read_le32.result in-s (omega arith) c.read_le32.ensures) c.narrow.ensures.1
          c.put2.ensures.low c.put2.ensures.high c.put2.ensures.under c.put2.ensures.past c.loop-x.invariant.1,
    )

pub returns : goal.returns
returns c = row_done _ _ _ _ _ c.loop-x.invariant.0 (omega arith) c.loop-x.invariant.1
