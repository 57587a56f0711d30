-- Two columns on one page, 4 by 3 pixels of 4 bytes each.
use Prim.Native.Nat.{ℕ}
use mathlib.Core.Path.{◌≡◌, refl}
use mathlib.Core.Bool.{true, false}
use Rattle.range.specs.Range.{overlaps}
use Rattle.pixel.specs.declared.format.Format.TheVariants.{Argb8888}
use Rattle.surface.specs.declared.Surface.{Surface}
use Rattle.surface.specs.Surface.{span}
use Rattle.surface.specs.Overlap.{exists_below, rows_overlap, surfaces_overlap}

abbrev column : ℕ → ℕ → Surface
column address stride = record { address = address; stride = stride; width = 4; height = 3; format = Argb8888 }

-- side by side: the spans share bytes, the rows none
pub beside : surfaces_overlap (column 0 64) (column 16 64) ≡ false
unfolding exists_below rows_overlap surfaces_overlap
beside = refl

pub spans : overlaps (span (column 0 64)) (span (column 16 64)) ≡ true
unfolding span
spans = refl

pub touching : surfaces_overlap (column 0 64) (column 15 64) ≡ true
unfolding exists_below rows_overlap surfaces_overlap
touching = refl

-- over the end of a line: row 0 of the second meets row 1 of the first
pub across : surfaces_overlap (column 0 64) (column 56 64) ≡ true
unfolding exists_below rows_overlap surfaces_overlap
across = refl

-- a line further down: two rows of each lie on one another
pub line_below : surfaces_overlap (column 0 64) (column 64 64) ≡ true
unfolding exists_below rows_overlap surfaces_overlap
line_below = refl

-- one below the other, as far to the right
pub below : surfaces_overlap (column 0 64) (column 192 64) ≡ false
unfolding exists_below rows_overlap surfaces_overlap
below = refl

-- the second in lines of its own: their spans meet
pub otherwise : surfaces_overlap (column 0 64) (column 16 72) ≡ true
unfolding exists_below rows_overlap surfaces_overlap span
otherwise = refl
