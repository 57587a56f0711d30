-- Where an output pixel comes from (01, "Pixels": flips come before the turn; 000, Flip/Rotation0).
use Rattle.std.specs.Prelude.{ℕ, ◌-◌, ◌<◌, Bool, cond, eqb}
use Rattle.transform.specs.declared.Rotation.{Rotation}
use Rattle.transform.specs.declared.Rotation.TheVariants.{Rotate0, Rotate90, Rotate180, Rotate270}
use Rattle.transform.specs.declared.Flip.{Flip}
use Rattle.transform.specs.declared.Transform.{Transform}
use Rattle.transform.specs.declared.Size.{Size}
use Rattle.transform.specs.declared.Point.{Point}

-- quarter turns clockwise (01: the turn), 0 to 3, as bits 5:4 of a source control word have them (01, "Groups and registers")
abbrev pub rotation_of : ℕ → Rotation
rotation_of code = cond (eqb code 0) Rotate0 (cond (eqb code 1) Rotate90 (cond (eqb code 2) Rotate180 Rotate270))

-- the same as a number of quarter turns
abbrev pub turns : Rotation → ℕ
turns Rotate0 = 0
turns Rotate90 = 1
turns Rotate180 = 2
turns Rotate270 = 3

-- the size of a picture of this size, rotated
abbrev pub rotated_size : Rotation → Size → Size
rotated_size Rotate0 s = s
rotated_size Rotate90 s = record { width = s.height; height = s.width }
rotated_size Rotate180 s = s
rotated_size Rotate270 s = record { width = s.height; height = s.width }

-- the pixel of the flipped source f, of this size, that is output pixel (x, y):
-- f(x, y), f(y, h-1-x), f(w-1-x, h-1-y), f(w-1-y, x) for 0 to 3 quarter turns
abbrev pub unrotated : Rotation → Size → Point → Point
unrotated Rotate0 s p = p
unrotated Rotate90 s p = record { x = p.y; y = s.height - 1 - p.x }
unrotated Rotate180 s p = record { x = s.width - 1 - p.x; y = s.height - 1 - p.y }
unrotated Rotate270 s p = record { x = s.width - 1 - p.y; y = p.x }

-- place i of n, counted from the other end if flipped
abbrev pub mirrored : Bool → ℕ → ℕ → ℕ
mirrored on n i = cond on (n - 1 - i) i

-- the pixel of the source that is pixel p of the flipped source
abbrev pub unflipped : Flip → Size → Point → Point
unflipped f s p = record { x = mirrored f.horizontal s.width p.x; y = mirrored f.vertical s.height p.y }

-- the source pixel that is output pixel p
unfoldable pub source_pixel : Transform → Size → Point → Point
source_pixel t s p = unflipped t.flip s (unrotated t.rotation s p)

-- a pixel of a picture of this size
pub record InPicture (s : Size) (p : Point) : Type 0 where
  pub across : p.x < s.width
  pub down : p.y < s.height
