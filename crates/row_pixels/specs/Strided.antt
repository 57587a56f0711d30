-- Internal: used only in contracts of helper functions. The source pixels of an output row lie one step apart, on from the first one or back
-- from it (01, "Pixels": flips and turns).
use Rattle.std.specs.Prelude.{◌≡◌, Bool, true, false, cond, not, List, ℕ, ◌+◌, ◌-◌, ◌*◌, ◌≤◌, ◌<◌, length}
use Rattle.pixel.specs.Formats.{bytes_per_pixel}
use Rattle.pixel.specs.declared.format.Format.{Format}
use Rattle.transform.specs.declared.Flip.{Flip}
use Rattle.transform.specs.declared.Rotation.{Rotation}
use Rattle.transform.specs.declared.Rotation.TheVariants.{Rotate0, Rotate90, Rotate180, Rotate270}
use Rattle.surface.specs.declared.Surface.{Surface}

-- x steps on from an address, or back
abbrev pub strided_address : ℕ → ℕ → Bool → ℕ → ℕ
strided_address start step back x = cond back (start - x * step) (start + x * step)

-- from one source pixel to the next: a pixel's bytes, or where rows have become columns the stride
abbrev pub pixel_stride : Rotation → Surface → ℕ
pixel_stride Rotate0 s = bytes_per_pixel s.format
pixel_stride Rotate90 s = s.stride
pixel_stride Rotate180 s = bytes_per_pixel s.format
pixel_stride Rotate270 s = s.stride

-- whether they go back
abbrev pub is_reversed : Rotation → Flip → Bool
is_reversed Rotate0 f = f.horizontal
is_reversed Rotate90 f = not f.vertical
is_reversed Rotate180 f = not f.horizontal
is_reversed Rotate270 f = f.vertical

-- what is asked where pixels are fetched in steps
pub record StridedFetchInBounds (memory buffer : List ℕ) (start step : ℕ) (back : Bool) (width : ℕ) (f : Format) : Type 0 where
  pub inside : (x : ℕ) → x < width → strided_address start step back x + bytes_per_pixel f ≤ length memory
  pub above : (x : ℕ) → x < width → back ≡ true → x * step ≤ start
  pub room : width * 4 ≤ length buffer

-- output rows are rows of the source, in the same order of pixels
abbrev pub is_identity_row : Rotation → Flip → Bool
is_identity_row Rotate0 f = not f.horizontal
is_identity_row Rotate90 f = false
is_identity_row Rotate180 f = false
is_identity_row Rotate270 f = false
