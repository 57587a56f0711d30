use mathlib.Core.Path.{◌∙◌}
use Prim.Native.Nat.{◌*◌, ◌/◌}
use native.Mathlib.Omega.{arith}
use Rattle.lanes.proofs.Passes.{to_end}
use Rattle.solid_rows.proofs.solid.Over.{over-more, over-row, from_start}
use Rattle.solid_rows.proofs.solid.solid_row.Goals as goal

pub returns : goal.returns
returns c =
    let w = c.args.width in
    over-row c.args.s.colour c.args.d.now c.solid_words.new.d w (λ j. omega (arith, c.slice_known-1.given j)) (λ j. omega (arith, c.slice_known-3-1.given j)) c.requires (c.solid_words.auto.d ∙ c.solid_fours.auto.d)
    (to_end _ _ _ _ (w * 2 * 2) _ (omega arith)
    (over-more c.args.s.colour _ c.solid_fours.new.d _ 0 (w / 4 * 16) (w * 2 * 2) (omega arith) (omega arith) c.solid_fours.ensures (from_start _ _ _ (w / 4 * 8 * 2) _ _ (omega arith) c.solid_words.ensures)))
