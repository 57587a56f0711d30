-- The paper's sentence of the cover (02, request 1), as a statement: "let a be the greatest whole number from 0 to 255 that, as f32, isn't above the
-- product; the cover is 255 - a". proofs/Covers.antt proves it of every score.
use Rattle.std.specs.Prelude.{ℕ, ◌-◌, ◌≤◌, ◌≡◌, T, Float}
use Rattle.score.specs.Coverage.{product, not_above, coverage_of}

pub record Covers (s : Float) (a : ℕ) : Type 0 where
  -- from 0 to 255
  pub small : a ≤ 255
  -- that isn't above the product
  pub under : T (not_above (product s) a)
  -- the greatest
  pub over : (k : ℕ) → k ≤ 255 → T (not_above (product s) k) → k ≤ a
  -- the cover
  pub cover : coverage_of s ≡ 255 - a
