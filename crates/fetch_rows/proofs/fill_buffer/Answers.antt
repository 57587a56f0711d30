use mathlib.Core.Path.{◌≡◌, ◌∙◌}
use Prim.Native.Nat.{ℕ, ◌-◌, ◌*◌}
use native.Mathlib.Omega.{arith}
use lib.ListN.{length}
use borrow.Rule.Slice.PartMut.{mid_of}
use Rattle.pixel.specs.declared.format.Format.TheVariants.{Argb8888}
use Rattle.surface.proofs.Parts.{length_mid}
use Rattle.row_pixels.specs.Row.{word_colour}
use Rattle.row_pixels.proofs.RowColours.Parts.{unpacked-small, holds_part}
use Rattle.fetch_rows.proofs.fill_buffer.Goals as goal

pub returns : goal.returns
returns c =
    let f = c.fill_words in
    let w = c.word_of in
    let a = c.args in
    let n : ℕ = a.width * 4 - 0 in
    let long : length (mid_of 0 n a.buffer.now) ≡ n = length_mid 0 n a.buffer.now (omega (arith, c.requires)) in
    λ x l.
    holds_part (λ x. word_colour w.result) a.buffer.now f.new.row a.width n (omega arith) c.requires (f.auto.row ∙ long) (λ x. unpacked-small Argb8888 w.result) f.ensures x l
    ∙ w.ensures
