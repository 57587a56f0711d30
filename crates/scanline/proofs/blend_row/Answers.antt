use mathlib.Core.Path.{◌≡◌, ap, ◌∙◌}
use Prim.Native.Nat.{ℕ, ◌-◌, ◌*◌}
use native.Mathlib.Omega.{arith}
use lib.ListN.{length}
use borrow.Rule.Slice.PartMut.{mid_of}
use Rattle.surface.proofs.Parts.{length_mid}
use Rattle.row_pixels.specs.Row.{colour_in}
use Rattle.row_pixels.specs.Composite.{composite}
use Rattle.row_pixels.proofs.RowColours.Parts.{part_colour, mixed-small, holds_part}
use Rattle.scanline.proofs.blend_row.Goals as goal

pub mix_row-requires : goal.mix_row-requires
mix_row-requires c =
    let a = c.args in
    let n : ℕ = a.width * 4 - 0 in
    record {
      wide = omega (arith, length_mid 0 n a.destination.now (omega (arith, c.requires.1)));
      room = c.requires.0;
      rule = c.requires.2;
    }

pub returns : goal.returns
returns c =
    let f = c.mix_row in
    let a = c.args in
    let n : ℕ = a.width * 4 - 0 in
    let long : length (mid_of 0 n a.destination.now) ≡ n = length_mid 0 n a.destination.now (omega (arith, c.requires.1)) in
    λ x l.
    holds_part (λ x. composite a.blending a.source_alpha a.destination_alpha (colour_in a.source.now x) (colour_in (mid_of 0 n a.destination.now) x))
    a.destination.now f.new.d a.width n (omega arith) c.requires.1 (f.auto.d ∙ long) (λ x. mixed-small a.blending a.source_alpha a.destination_alpha _ _) f.ensures x l
    ∙ ap (composite a.blending a.source_alpha a.destination_alpha (colour_in a.source.now x)) (part_colour a.destination.now n x (omega arith))
