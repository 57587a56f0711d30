use mathlib.Core.Path.{◌≡◌, ◌∙◌}
use Prim.Native.Nat.{ℕ, ◌+◌, ◌-◌}
use native.Mathlib.Omega.{arith}
use Rattle.surface.specs.Surface.{row_length}
use Rattle.surface.proofs.Parts.{length_mid}
use Rattle.unblended_rows.proofs.row_copy.Bytes.{narrower, row_copied}
use Rattle.raster.proofs.Slices.{row_lent}
use Rattle.unblended_rows.proofs.store_at.Goals as goal

pub copy-requires : goal.copy-requires
copy-requires c =
    let a = c.args in
    let k : ℕ = a.at + c.row_length.result - a.at in
    let e : k ≡ row_length a.output = omega (arith, c.row_length.ensures) in
    omega (arith, length_mid a.at k a.window.now (omega (arith, c.requires.inside)), narrower a.output.format a.output.width _ c.requires.room)

pub returns : goal.returns
returns c =
    let a = c.args in
    let f = c.copy in
    let k : ℕ = a.at + c.row_length.result - a.at in
    let e : k ≡ row_length a.output = omega (arith, c.row_length.ensures) in
    let long = length_mid a.at k a.window.now (omega (arith, c.requires.inside)) in
    row_lent a.output _ a.window.now f.new.d a.at _ e c.requires.inside
    (row_copied a.output.format a.source.now _ f.new.d a.output.width (λ j. omega (arith, c.shared_slice_known-1.given j))
    (narrower a.output.format a.output.width _ c.requires.room) (long ∙ e) f.auto.d f.ensures)
