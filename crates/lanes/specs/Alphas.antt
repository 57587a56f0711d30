-- Internal: the alphas of four pixels of a row of ARGB8888 bytes.
use Rattle.std.specs.Prelude.{Bool, ◌&&◌, List, ℕ, ◌+◌, eqb, get_or}

-- the alphas of the four pixels at o are all v
unfoldable pub alphas_are : ℕ → List ℕ → ℕ → Bool
alphas_are v s o = (eqb (get_or s (o + 3) 0) v && eqb (get_or s (o + 7) 0) v) && (eqb (get_or s (o + 11) 0) v && eqb (get_or s (o + 15) 0) v)

-- and added up
abbrev pub alpha_sum : List ℕ → ℕ → ℕ
alpha_sum s o = get_or s (o + 3) 0 + get_or s (o + 7) 0 + get_or s (o + 11) 0 + get_or s (o + 15) 0
