use mathlib.Core.Path.{sym, ap, ◌∙◌}
use native.Mathlib.Nat.{not-suc-le-zero}
use lib.ListN.{length}
use Rattle.surface.specs.Drawn.{load_pixel}
use Rattle.row_pixels.specs.Row.{colour_at}
use Rattle.row_pixels.proofs.Straight.{side_by_side, side_by_side_in}
use Rattle.unblended_rows.proofs.row_copy.Bytes.{narrower}
use Rattle.unblended_rows.proofs.row_copy.fetch_bytes.Goals as goal

pub returns-then-width-eq0 : goal.returns-then-width-eq0
returns-then-width-eq0 c = λ x z. absurd (not-suc-le-zero (rw c.if-width-eq0.true at z))

pub load_row-requires : goal.load_row-requires
load_row-requires c =
    let a = c.args in
    let p = c.requires.0 in (
      rw c.origin.ensures (side_by_side_in a.s a.transform c.requires.1 c.requires.2 a.y a.width _ (rw c.requires.1 at p.down) (rw c.requires.1 at p.across) p.inside),
      narrower a.s.format a.width (length a.buffer.now) p.room,
    )

pub returns : goal.returns
unfolding colour_at
returns c =
    let a = c.args in
    λ x z.
    c.load_row.ensures x z
    ∙ ap (load_pixel a.s.format a.memory.now) (rw c.origin.ensures (sym (side_by_side a.s a.transform c.requires.1 c.requires.2 x a.y)))
