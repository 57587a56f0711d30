-- A row that was lent out of a window and came back drawn, and a window that was lent out of memory.
use mathlib.Core.Path.{◌≡◌, ap, ◌∙◌}
use mathlib.Core.List.{List}
use Prim.Native.Nat.{ℕ, ◌+◌, ◌≤◌, ◌<◌}
use lib.ListN.{length}
use borrow.Rule.Slice.PartMut.{mid_of, put_mid}
use Rattle.pixel.specs.Formats.{bytes_per_pixel, layout_of}
use Rattle.pixel.specs.Colours.{packed}
use Rattle.pixel.specs.declared.colour.Colour.{Colour}
use Rattle.surface.specs.Surface.{row_length}
use Rattle.surface.specs.declared.Surface.{Surface}
use Rattle.surface.proofs.Sizes.{bytes-some}
use Rattle.surface.proofs.Parts.{part_mapi, within-within, within_ext}
use Rattle.surface.proofs.Pixels.{row_byte_ext}
use Rattle.row_pixels.specs.Row.{row_stored}
use Rattle.raster.specs.Row.{row_drawn}

-- k is a part's length as the borrow checker says it, `last` what came back
module _ (o : Surface) (p : ℕ → Colour) where
  pub row_lent : (bytes last : List ℕ) (at k : ℕ) → k ≡ row_length o → at + row_length o ≤ length bytes →
      last ≡ row_stored o.format p (mid_of at k bytes) → put_mid at k bytes last ≡ row_drawn o at p bytes
  unfolding row_drawn row_stored
  row_lent bytes last at k e l h = part_mapi _ bytes last at k (row_length o) e l h

  pub window_lent : (memory last : List ℕ) (start n k at i : ℕ) → k ≡ n → start + n ≤ length memory → at + row_length o ≤ n → i ≡ start + at →
      last ≡ row_drawn o at p (mid_of start k memory) → put_mid start k memory last ≡ row_drawn o i p memory
  unfolding row_drawn
  window_lent memory last start n k at i e l f q h =
      rw q (part_mapi _ memory last start k n e l h ∙ within-within start n at (row_length o) _ memory f)

-- a row goes by the colours of its own pixels alone
pub row_ext : (o : Surface) (at : ℕ) (p q : ℕ → Colour) (bytes : List ℕ) → ((x : ℕ) → x < o.width → p x ≡ q x) →
    row_drawn o at p bytes ≡ row_drawn o at q bytes
unfolding row_drawn
row_ext o at p q bytes h =
    within_ext at (row_length o) _ _ bytes
    (λ j l old. row_byte_ext (bytes_per_pixel o.format) o.width _ _ j (bytes-some o.format) l (λ x u. ap (packed (layout_of o.format)) (h x u)))
