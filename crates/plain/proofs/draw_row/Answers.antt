use mathlib.Core.Path.{◌≡◌, refl, ◌∙◌}
use native.Mathlib.Omega.{arith}
use lib.ListN.{length}
use Rattle.plain.proofs.PixelByPixel.{none-begun, prefix-step, prefix-all}
use Rattle.plain.proofs.draw_row.Goals as goal

pub loop-x-init : goal.loop-x-init
loop-x-init c = record { pixels = none-begun _ _ _; size = refl }

pub draw_pixel-requires : goal.draw_pixel-requires
draw_pixel-requires c =
    let l = c.loop-x in
    record { whole = rw l.invariant.size c.requires.whole; column = c.loop-x-test.true; row = c.requires.row }

pub loop-x-preserved : goal.loop-x-preserved
loop-x-preserved c =
    let l = c.loop-x in
    let f = c.draw_pixel in record {
      pixels = prefix-step (record { start = 0; end = length c.args.memory.now }) _ c.args.task c.requires.whole.clear c.args.memory.now l.memory f.new.memory l.x c.args.y c.loop-x-test.true c.requires.row l.invariant.pixels f.ensures;
      size = f.auto.memory ∙ l.invariant.size;
    }

pub returns : goal.returns
returns c =
    let l = c.loop-x in
    let a = c.args in
    let e : l.x ≡ a.task.output.width = omega arith in
    (rw e at l.invariant.pixels) ∙ prefix-all a.task a.y a.memory.now
