-- Every output pixel comes from a pixel of the source.
use Prim.Native.Nat.{ℕ, ◌<◌}
use mathlib.Core.Bool.{Bool, true, false}
use native.Mathlib.Omega.{arith}
use Rattle.transform.specs.declared.Rotation.{Rotation}
use Rattle.transform.specs.declared.Rotation.TheVariants.{Rotate0, Rotate90, Rotate180, Rotate270}
use Rattle.transform.specs.declared.Flip.{Flip}
use Rattle.transform.specs.declared.Transform.{Transform}
use Rattle.transform.specs.declared.Size.{Size}
use Rattle.transform.specs.declared.Point.{Point}
use Rattle.transform.specs.Transform.{InPicture, rotated_size, unrotated, mirrored, unflipped, source_pixel}

pub unrotated-within : (r : Rotation) (s : Size) (p : Point) → InPicture (rotated_size r s) p → InPicture s (unrotated r s p)
unrotated-within Rotate0 s p h = h
unrotated-within Rotate90 s p h = record { across = h.down; down = omega (arith, h.across) }
unrotated-within Rotate180 s p h = record { across = omega (arith, h.across); down = omega (arith, h.down) }
unrotated-within Rotate270 s p h = record { across = omega (arith, h.down); down = h.across }

pub mirrored-below : (on : Bool) (n i : ℕ) → i < n → mirrored on n i < n
mirrored-below true n i h = omega arith
mirrored-below false n i h = h

pub unflipped-within : (f : Flip) (s : Size) (p : Point) → InPicture s p → InPicture s (unflipped f s p)
unflipped-within f s p h =
    record { across = mirrored-below f.horizontal s.width p.x h.across; down = mirrored-below f.vertical s.height p.y h.down }

pub source-within : (t : Transform) (s : Size) (p : Point) → InPicture (rotated_size t.rotation s) p → InPicture s (source_pixel t s p)
unfolding source_pixel
source-within t s p h = search (unflipped-within, unrotated-within)
