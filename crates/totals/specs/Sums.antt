-- Internal: counts added one by one.
use Rattle.std.specs.Prelude.{List, IfSome, IfNone, Option, ◌≡◌, ℕ, ◌+◌, ◌≤◌, ◌<◌, get_or}
use Rattle.totals.specs.Totals.{largest, Position}

-- the sums are those of the counts, and none is too large
pub record Exact (counts more sum : List ℕ) (k : ℕ) : Type 0 where
  pub each : (j : ℕ) → j < k → get_or sum j 0 ≡ get_or counts j 0 + get_or more j 0
  pub small : (j : ℕ) → j < k → get_or counts j 0 + get_or more j 0 ≤ largest

-- one sum is too large
pub record TooLarge (counts more : List ℕ) : Type 0 where
  pub position : Position
  pub large : largest < get_or counts position.index 0 + get_or more position.index 0

pub record Sum (counts more : List ℕ) (sum : Option (List ℕ)) : Type 0 where
  pub exact : IfSome sum (λ exact. Exact counts more exact 14)
  pub over : IfNone sum (TooLarge counts more)
