-- The rows of a surface that is not turned.
use mathlib.Core.Path.{◌≡◌, refl}
use mathlib.Core.Bool.{Bool, true, false, false≢true}
use Prim.Native.Nat.{ℕ, ◌+◌, ◌*◌, ◌≤◌, ◌<◌}
use native.Mathlib.Nat.{mul-le-mul_right}
use native.Mathlib.Omega.{arith}
use Rattle.pixel.specs.Formats.{bytes_per_pixel}
use Rattle.transform.specs.Transform.{InPicture, rotated_size, source_pixel, mirrored}
use Rattle.transform.specs.declared.Rotation.{Rotation}
use Rattle.transform.specs.declared.Rotation.TheVariants.{Rotate0, Rotate90, Rotate180, Rotate270}
use Rattle.transform.specs.declared.Transform.{Transform}
use Rattle.transform.proofs.Inside.{mirrored-below, source-within}
use Rattle.surface.specs.Surface.{row_start, pixel_start, span}
use Rattle.surface.specs.declared.Surface.{Surface}
use Rattle.surface.proofs.Outside.{row_in-span}
use Rattle.register.specs.Size.{size_of}
use Rattle.row_pixels.specs.Row.{source_pixel_of}
use Rattle.row_pixels.specs.Strided.{is_identity_row}

-- the source pixel of an output pixel is one of the surface's
pub point_within : (s : Surface) (t : Transform) (x y : ℕ) → InPicture (rotated_size t.rotation (size_of s)) (record { x = x; y = y }) → InPicture (size_of s) (source_pixel_of s t x y)
unfolding source_pixel_of
point_within s t x y h = source-within t (size_of s) (record { x = x; y = y }) h

-- not turned: flips alone place a pixel
module _ (s : Surface) (t : Transform) (upright : t.rotation ≡ Rotate0) (x y : ℕ) where
  pub upright_x : (source_pixel_of s t x y).x ≡ mirrored t.flip.horizontal s.width x
  unfolding source_pixel_of source_pixel
  upright_x = rw upright

  pub upright_y : (source_pixel_of s t x y).y ≡ mirrored t.flip.vertical s.height y
  unfolding source_pixel_of source_pixel
  upright_y = rw upright

-- not turned, and not flipped from left to right
module _ (s : Surface) (t : Transform) (upright : t.rotation ≡ Rotate0) (kept : t.flip.horizontal ≡ false) where
  -- output row y begins where a row of the surface does
  pub first-of-row : (y : ℕ) → row_start s (mirrored t.flip.vertical s.height y) ≡ pixel_start s (source_pixel_of s t 0 y).x (source_pixel_of s t 0 y).y
  unfolding source_pixel_of source_pixel
  first-of-row y = rw (upright, kept) (omega arith)

  -- the pixels of output row y lie side by side
  pub side_by_side : (x y : ℕ) →
      pixel_start s (source_pixel_of s t x y).x (source_pixel_of s t x y).y ≡ pixel_start s (source_pixel_of s t 0 y).x (source_pixel_of s t 0 y).y + x * bytes_per_pixel s.format
  unfolding source_pixel_of source_pixel
  side_by_side x y = rw (upright, kept) (omega arith)

  -- and in the surface
  pub side_by_side_in : (y width n : ℕ) → y < s.height → width ≤ s.width → (span s).end ≤ n →
      pixel_start s (source_pixel_of s t 0 y).x (source_pixel_of s t 0 y).y + width * bytes_per_pixel s.format ≤ n
  unfolding source_pixel_of source_pixel
  side_by_side_in y width n u w l =
      let z : ℕ = mirrored t.flip.vertical s.height y in
      rw (upright, kept)
      (omega (arith, row_in-span s z (mirrored-below t.flip.vertical s.height y u), mul-le-mul_right (bytes_per_pixel s.format) w))

pub straight : (t : Transform) → is_identity_row t.rotation t.flip ≡ true → (t.rotation ≡ Rotate0) × (t.flip.horizontal ≡ false)
straight t e = go t.rotation t.flip.horizontal e
  where
    go : (r : Rotation) (h : Bool) → is_identity_row r (record { horizontal = h; vertical = t.flip.vertical }) ≡ true → (r ≡ Rotate0) × (h ≡ false)
    go Rotate0 false e = (refl, refl)
    go Rotate0 true e = absurd (false≢true e)
    go Rotate90 h e = absurd (false≢true e)
    go Rotate180 h e = absurd (false≢true e)
    go Rotate270 h e = absurd (false≢true e)
