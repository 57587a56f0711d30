use mathlib.Core.Path.{◌≡◌}
use Prim.Native.Nat.{◌+◌, ◌-◌}
use native.Mathlib.Omega.{arith}
use Rattle.surface.specs.Surface.{row_length}
use Rattle.raster.proofs.Slices.{row_lent}
use Rattle.buffered_rows.proofs.blit_at.Goals as goal

pub returns : goal.returns
returns c =
    let a = c.args in
    let f = c.blit_row in
    let e : a.at + c.row_length.result - a.at ≡ row_length a.output = omega (arith, c.row_length.ensures) in
    row_lent a.output _ a.window.now f.new.row a.at _ e c.requires.inside f.ensures
