use mathlib.Core.Path.{refl, ◌∙◌}
use Rattle.ppm.proofs.Shown.{shown_none, shown_more}
use Rattle.ppm.proofs.picture.put_row.Goals as goal

pub loop-x-init : goal.loop-x-init
loop-x-init c = shown_none _ _

pub loop-x-preserved : goal.loop-x-preserved
loop-x-preserved c =
    let l = c.loop-x in
    c.put.ensures ∙ shown_more _ _ l.out l.x _ _ l.invariant refl (c.load-c.ensures ∙ rw c.bytes-bytes.ensures)
