-- Scores by their bits: the paper's examples, and the edges.
use mathlib.Core.Path.{◌≡◌, refl}
use mathlib.Core.Bool.{true, false}
use mathlib.Core.List.{[], ◌∷◌}
use Prim.Native.Nat.{ℕ}
use lib.Ieee.{nan, inf, binary32, of_bits, mul, le, of_int}
use Rattle.score.specs.Coverage.{is_score, product, not_above, greatest_to, coverage_of}

abbrev coverage : ℕ → ℕ
coverage bits = coverage_of (of_bits binary32 bits)

-- 0.5 and 1; 0 and -0.0; the least float above 0; the greatest below 1; 1 / 255, and the float below it
pub worked :
    coverage 0x3F000000 ∷ coverage 0x3F800000
    ∷ coverage 0x00000000 ∷ coverage 0x80000000
    ∷ coverage 0x00000001
    ∷ coverage 0x3F7FFFFF
    ∷ coverage 0x3B808081 ∷ coverage 0x3B808080 ∷ []
    ≡ 128 ∷ 0 ∷ 255 ∷ 255 ∷ 255 ∷ 1 ∷ 254 ∷ 255 ∷ []
unfolding coverage_of greatest_to not_above product mul le of_int of_bits
worked = refl

-- -0.0 and 1 are scores; the least float below 0, the least above 1, the infinities and NaN are none
pub edges :
    is_score (of_bits binary32 0x80000000) ∷ is_score (of_bits binary32 0x3F800000)
    ∷ is_score (of_bits binary32 0x80000001) ∷ is_score (of_bits binary32 0x3F800001)
    ∷ is_score (inf false) ∷ is_score (inf true) ∷ is_score nan ∷ []
    ≡ true ∷ true ∷ false ∷ false ∷ false ∷ false ∷ false ∷ []
unfolding is_score le of_bits
edges = refl
