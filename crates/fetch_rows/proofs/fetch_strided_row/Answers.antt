use mathlib.Core.Path.{sym, ap, ◌∙◌}
use Prim.Native.Nat.{ℕ, ◌<◌}
use native.Mathlib.Nat.{not-suc-le-zero}
use native.Mathlib.Omega.{arith}
use Rattle.transform.specs.Transform.{InPicture, rotated_size}
use Rattle.surface.specs.Drawn.{load_pixel}
use Rattle.register.specs.Size.{size_of}
use Rattle.row_pixels.specs.Row.{colour_at}
use Rattle.row_pixels.proofs.Stepping.{origin_stepped, origin-above, stepped_in}
use Rattle.fetch_rows.proofs.fetch_strided_row.Goals.{After-origin-start}
use Rattle.fetch_rows.proofs.fetch_strided_row.Goals as goal

pub returns-then-width-eq0 : goal.returns-then-width-eq0
returns-then-width-eq0 c = λ x z. absurd (not-suc-le-zero (rw c.if-width-eq0.true at z))

-- output pixel (x, y) is one of the rotated picture
drawn : (c : After-origin-start) (x : ℕ) → x < c.args.width →
    InPicture (rotated_size c.args.transform.rotation (size_of c.args.s))
    (record { x = x; y = c.args.y })
drawn c x l =
    let p = c.requires in
    record { across = omega (arith, l, p.across); down = p.down }

pub fetch_strided-requires : goal.fetch_strided-requires
fetch_strided-requires c =
    let a = c.args in
    rw (c.origin-start.ensures, c.pixel_stride-step.ensures, c.is_reversed-back.ensures)
    (record {
      inside = λ x l. stepped_in a.s a.transform x a.y (drawn (goal.at.fetch_strided-requires c).After-origin-start x l) _ c.requires.inside;
      above = λ x l. origin-above a.s a.transform x a.y (drawn (goal.at.fetch_strided-requires c).After-origin-start x l);
      room = c.requires.room;
    })

pub returns : goal.returns
unfolding colour_at
returns c =
    let a = c.args in
    λ x z.
    c.fetch_strided.ensures x z
    ∙ ap (load_pixel a.s.format a.memory.now)
    (rw (c.origin-start.ensures, c.pixel_stride-step.ensures, c.is_reversed-back.ensures) (sym (origin_stepped a.s a.transform x a.y (drawn (goal.at.returns c).After-origin-start x z))))
