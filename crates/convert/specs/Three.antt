-- Internal: three bytes of a row.
use Rattle.std.specs.Prelude.{◌≡◌, List, ℕ, ◌+◌, ◌≤◌, ◌<◌, get_or}

-- three bytes stored at o
pub record Three (before after : List ℕ) (o b g r : ℕ) : Type 0 where
  pub first : get_or after o 0 ≡ b
  pub second : get_or after (o + 1) 0 ≡ g
  pub third : get_or after (o + 2) 0 ≡ r
  pub under : (j : ℕ) → j < o → get_or after j 0 ≡ get_or before j 0
  pub past : (j : ℕ) → o + 3 ≤ j → get_or after j 0 ≡ get_or before j 0
