-- The laws of composed settings (02, request 8). proofs/Composed.antt proves `Composes`, proofs/Settings.antt `Settings` and `ReadBack`, proofs/Same.antt `Exactly`.
-- What they say of memory is in crate raster, specs/Twice.antt.
use Rattle.std.specs.Prelude.{◌≡◌, ◌↔◌, false, ℕ}
use Rattle.transform.specs.declared.Transform.{Transform}
use Rattle.transform.specs.declared.Size.{Size}
use Rattle.transform.specs.declared.Point.{Point}
use Rattle.transform.specs.Transform.{InPicture, rotated_size, source_pixel}
use Rattle.orientation.specs.Compose.{compose, neutral, inverse, SameOrientation, orientation}
use Rattle.orientation.specs.Bits.{setting_of, bits_of}

-- the composed setting gives the size, and brings to each place the source pixel, that the two give and bring one after the other
pub record Composes : Type 0 where
  pub size : (a b : Transform) (s : Size) → rotated_size (compose a b).rotation s ≡ rotated_size b.rotation (rotated_size a.rotation s)
  pub source : (a b : Transform) (s : Size) (p : Point) → InPicture (rotated_size (compose a b).rotation s) p →
      source_pixel (compose a b) s p ≡ source_pixel a s (source_pixel b (rotated_size a.rotation s) p)

-- the sixteen settings; all of it holds strictly, and so up to equal drawing
pub record Settings : Type 0 where
  pub associative : (a b c : Transform) → compose (compose a b) c ≡ compose a (compose b c)
  pub neutral_first : (t : Transform) → compose neutral t ≡ t
  pub neutral_second : (t : Transform) → compose t neutral ≡ t
  pub inverse_second : (t : Transform) → compose t (inverse t) ≡ neutral
  pub inverse_first : (t : Transform) → compose (inverse t) t ≡ neutral
  -- settings of one orientation are those with the same one of the eight
  pub upright : (t : Transform) → (orientation t).flip.vertical ≡ false
  pub oriented : (a b : Transform) → (orientation a ≡ orientation b) ↔ SameOrientation a b
  -- an orientation is that of its own setting, and composing goes by orientations
  pub itself : (t : Transform) → SameOrientation (orientation t) t
  pub composed : (a b : Transform) → orientation (compose (orientation a) (orientation b)) ≡ orientation (compose a b)

-- a setting is read back from its bits
abbrev pub ReadBack : Type 0
ReadBack = (t : Transform) → setting_of (bits_of t) ≡ t

-- two settings give the same size and bring the same source pixel to each place, of every picture
pub record Alike (a b : Transform) : Type 0 where
  pub size : (s : Size) → rotated_size a.rotation s ≡ rotated_size b.rotation s
  pub source : (s : Size) (p : Point) → InPicture (rotated_size a.rotation s) p → source_pixel a s p ≡ source_pixel b s p

abbrev pub square : Size
square = record { width = 2; height = 2 }

abbrev pub place : ℕ → Point
place x = record { x = x; y = 0 }

-- they do exactly if they have the same orientation
pub record Exactly : Type 0 where
  pub alike : (a b : Transform) → SameOrientation a b → Alike a b
  pub same : (a b : Transform) → Alike a b → SameOrientation a b
  -- a picture of 2 by 2 distinguishes orientations, by the source pixels of two places of its upper row
  pub determined : (a b : Transform) → source_pixel a square (place 0) ≡ source_pixel b square (place 0) → source_pixel a square (place 1) ≡ source_pixel b square (place 1) →
      SameOrientation a b
