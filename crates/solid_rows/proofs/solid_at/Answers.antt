use mathlib.Core.Path.{◌≡◌}
use Prim.Native.Nat.{ℕ, ◌+◌, ◌-◌}
use native.Mathlib.Omega.{arith}
use Rattle.surface.specs.Surface.{row_length}
use Rattle.surface.proofs.Parts.{length_mid}
use Rattle.raster.proofs.InPlace.{argb-length}
use Rattle.solid_rows.proofs.Over.{solid_lent}
use Rattle.solid_rows.proofs.solid_at.Goals as goal

pub solid_row-requires : goal.solid_row-requires
solid_row-requires c =
    let a = c.args in
    let k : ℕ = a.at + c.row_length.result - a.at in
    let long = length_mid a.at k a.window.now (omega (arith, c.requires.inside, c.row_length.ensures)) in
    omega (arith, long, c.row_length.ensures, argb-length a.output c.requires.format)

pub returns : goal.returns
returns c =
    let a = c.args in
    let f = c.solid_row in
    let e : a.at + c.row_length.result - a.at ≡ row_length a.output = omega (arith, c.row_length.ensures) in
    solid_lent a.output a.solid.colour a.window.now f.new.d a.at _ c.requires.format e c.requires.inside f.ensures
