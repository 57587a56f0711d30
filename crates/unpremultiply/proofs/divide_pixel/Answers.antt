use native.Mathlib.Omega.{arith}
use lib.ListN.{length-set}
use Rattle.unpremultiply.specs.Unpremultiply.{unpremultiplied_channel}
use Rattle.unpremultiply.proofs.Pixels.{pixel_divided}
use Rattle.unpremultiply.proofs.divide_pixel.Goals as goal

pub bounds-row-at-6 : goal.bounds-row-at-6
bounds-row-at-6 c = simp length-set (omega arith)

pub bounds-row-at-7 : goal.bounds-row-at-7
bounds-row-at-7 c = simp length-set (omega arith)

pub returns : goal.returns
unfolding unpremultiplied_channel
returns c =
    let t = c.reciprocal-t.ensures.0 in
    pixel_divided c.args.row.now c.args.at _ _ _ c.requires.0 c.requires.1
    (simp (c.scaled-blue.ensures, t)) (simp (c.scaled-green.ensures, t)) (simp (c.scaled-red.ensures, t))
