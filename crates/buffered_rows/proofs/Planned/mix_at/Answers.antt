use mathlib.Core.Path.{◌≡◌}
use Prim.Native.Nat.{ℕ, ◌+◌, ◌-◌}
use native.Mathlib.Omega.{arith}
use Rattle.surface.specs.Surface.{row_length}
use Rattle.surface.proofs.Parts.{length_mid}
use Rattle.raster.proofs.InPlace.{argb-length, mixed-lent}
use Rattle.buffered_rows.proofs.Planned.mix_at.Goals as goal

pub mix_row-requires : goal.mix_row-requires
mix_row-requires c =
    let a = c.args in
    let k : ℕ = a.at + c.row_length.result - a.at in
    let long = length_mid a.at k a.window.now (omega (arith, c.requires.fits.inside, c.row_length.ensures)) in
    record {
      wide = omega (arith, long, c.row_length.ensures, argb-length a.self.now.task.output c.requires.format);
      room = c.requires.fits.room;
      rule = a.self.now.of_rule;
    }

pub returns : goal.returns
returns c =
    let a = c.args in
    let e : a.at + c.row_length.result - a.at ≡ row_length a.self.now.task.output = omega (arith, c.row_length.ensures) in
    mixed-lent a.self.now.task a.window.now a.source.now c.mix_row.new.d a.at _ c.requires.format e c.requires.fits.inside c.mix_row.ensures
