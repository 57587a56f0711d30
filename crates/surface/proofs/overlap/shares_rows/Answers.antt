use mathlib.Core.Path.{refl, ap}
use Prim.Native.Nat.{ℕ, ◌+◌}
use native.Mathlib.Omega.{arith}
use Rattle.surface.proofs.overlap.Overlap.{First, near, flat, far_off, row_decides}
use Rattle.surface.proofs.overlap.shares_rows.Goals as goal
use Rattle.surface.proofs.overlap.shares_rows.Goals.{then-from-end, else-from-end+then-stride-eq0, else-from-end+else-stride-eq0}

pub returns : goal.returns
returns c =
    let a = c.args in
    let e = c.row_length.ensures in
    -- y is the row that decides
    let first : First a.first a.later c.requires c.if-from-end.y =
    elim c.if-from-end.branch [
      | then-from-end w ↦ near w.y-is (omega (arith, e))
      | else-from-end+then-stride-eq0 w ↦ flat w.y-is w.if-stride-eq0.true
      | else-from-end+else-stride-eq0 w ↦ far_off a.first a.later c.requires _ (omega (arith, e)) w.if-stride-eq0.false (rw e at w.y-is)
    ] in
    rw c.overlaps.ensures
    (row_decides a.first a.later c.requires c.if-from-end.y _ _ _ first (omega (arith, e)) refl (ap (λ (n : ℕ). a.later.address + n) c.row_length-2.ensures))
