-- A score (02, request 1): which floats are one, and the coverage (the paper's cover) that it gives. An f32 is a `Float` here; `binary32` rounds
-- as f32 does.
use Rattle.std.specs.Prelude.{ℕ, zero, suc, ◌-◌, Bool, false, cond, ◌&&◌, pos, Float}
use Rattle.std.specs.Float.{fin, binary32}
use Rattle.std.specs.Float.Ieee.{mul, le, of_int}

-- a whole number as a float
abbrev pub whole : ℕ → Float
whole n = fin false n (pos 0)

-- from 0 to 1, as f32 compares: NaN is in no order with anything, and -0.0 is as great as 0
unfoldable pub is_score : Float → Bool
is_score s = le (whole 0) s && le s (whole 1)

-- "multiply it by 255 with the one f32 rounding"
unfoldable pub product : Float → Float
product s = mul binary32 s (whole 255)

-- a whole number, "as f32, isn't above the product"
unfoldable pub not_above : Float → ℕ → Bool
not_above p n = le (of_int binary32 (pos n)) p

-- the greatest whole number from 0 to n that isn't above p; 0 if there is none, which no score brings
unfoldable pub greatest_to : ℕ → Float → ℕ
greatest_to zero p = 0
greatest_to (suc n) p = cond (not_above p (suc n)) (suc n) (greatest_to n p)

-- "the cover is 255 - a"
unfoldable pub coverage_of : Float → ℕ
coverage_of s = 255 - greatest_to 255 (product s)
