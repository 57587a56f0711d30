-- Whether two surfaces overlap (02, request 7: "Where two surfaces have equal strides, 28 asks whether a byte lies in rows of both; padding doesn't count.
-- With unequal strides the span rule stays."). That rows overlap exactly where a byte lies in rows of both is shown in proofs/overlap/Overlap.antt (`rows-separate`,
-- `common-byte`).
use Rattle.std.specs.Prelude.{ℕ, zero, suc, ◌≤◌, ◌≡◌, Bool, false, cond, ◌||◌, eqb}
use Rattle.range.specs.Range.{range_of, overlaps}
use Rattle.range.specs.declared.Range.{Range}
use Rattle.surface.specs.declared.Surface.{Surface}
use Rattle.surface.specs.Surface.{row_length, row_start, span}

-- the bytes of row y; what the stride leaves between rows is no part of them
abbrev pub row_range : Surface → ℕ → Range
row_range s y = range_of (row_start s y) (row_length s)

-- the test passes for some number below n
unfoldable pub exists_below : ℕ → (ℕ → Bool) → Bool
exists_below zero test = false
exists_below (suc n) test = test n || exists_below n test

-- some row of one and some row of the other share a byte
unfoldable pub rows_overlap : Surface → Surface → Bool
rows_overlap a b = exists_below a.height (λ y. exists_below b.height (λ v. overlaps (row_range a y) (row_range b v)))

-- with equal strides surfaces overlap in rows, else in spans
unfoldable pub surfaces_overlap : Surface → Surface → Bool
surfaces_overlap a b = cond (eqb a.stride b.stride) (rows_overlap a b) (overlaps (span a) (span b))

-- Internal: a begins no later than b, and both go down by the same stride
pub record StartsNoLater (a b : Surface) : Type 0 where
  pub address : a.address ≤ b.address
  pub stride : a.stride ≡ b.stride
