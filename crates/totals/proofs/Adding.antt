-- Counts added one by one, and under other names.
use mathlib.Core.Path.{◌≡◌}
use mathlib.Core.Logic.{◌⊎◌, inl, inr}
use mathlib.Core.List.{List}
use Prim.Native.Nat.{ℕ, ◌+◌, ◌-◌, ◌^◌, ◌≤◌, ◌<◌}
use native.Mathlib.Omega.{arith}
use borrow.Author.Rules.{rules}
use lib.ListN.{get_or}
use lib.Dec.{leb}
use borrow.Author.Tests.{le-leb, lt-leb}
use Rattle.word.proofs.Tests.{split}
use Rattle.totals.specs.declared.Totals.{Totals}
use Rattle.totals.specs.declared.Answer.{Answer}
use Rattle.totals.specs.Totals.{largest, Position, count_at, Added, AddsTotals}
use Rattle.totals.specs.Sums.{Sum}
use Rattle.std.specs.Prelude.{Option, Some, None, SomeIff}

-- ---- one by one

-- room in a count
pub room-is : (have n : ℕ) → have ≤ largest → leb n (largest - have) ≡ leb (have + n) largest
room-is have n small = go (split largest (have + n))
  where
    go : (largest < have + n) ⊎ (have + n ≤ largest) → leb n (largest - have) ≡ leb (have + n) largest
    go (inl h) = rw (lt-leb n (largest - have) (omega arith), lt-leb (have + n) largest h)
    go (inr h) = rw (le-leb n (largest - have) (omega arith), le-leb (have + n) largest h)

-- a sum that passes the largest number
pub sum_none : (counts more : List ℕ) (k : ℕ) (r : Option ℕ) → k < 14 → SomeIff r (get_or counts k 0 + get_or more k 0 < 2 ^ 64) (get_or counts k 0 + get_or more k 0) → r ≡ None → Sum counts more None
sum_none counts more k None below A e = over (split largest (get_or counts k 0 + get_or more k 0))
  where
    over : (largest < get_or counts k 0 + get_or more k 0) ⊎ (get_or counts k 0 + get_or more k 0 ≤ largest) → Sum counts more None
    over (inl h) = record { exact = tt; over = record { position = record { index = k; below = below }; large = h } }
    over (inr h) = absurd (A (omega (arith, h)))
sum_none counts more k (Some n) below A e = search rules

-- ---- the same counts under other names

-- a name for each position, and a position for each name
pub record Names (Kind : Type 0) (place : Kind → ℕ) : Type 0 where
  pub name : Position → Kind
  pub placed : (p : Position) → place (name p) ≡ p.index
  pub below : (count : Kind) → place count < 14

module _ (Kind : Type 0) (place : Kind → ℕ) (names : Names Kind place) (totals other : Totals) (answer : Answer) (A : AddsTotals totals other answer) where
  abbrev at : Kind → Position
  at count = record { index = place count; below = names.below count }

  renamed : (p : Position) → count_at (place (names.name p)) totals + count_at (place (names.name p)) other ≤ largest → count_at p.index totals + count_at p.index other ≤ largest
  renamed p h = rw (names.placed p) at h

  pub adds-named : Added Kind place totals (λ count. count_at (place count) other) answer
  adds-named = record {
    adds = λ fits. let all = A.adds (λ p. renamed p (fits (names.name p))) in (all.0, λ count. all.1 (at count));
    refuses = λ count large. A.refuses (at count) large;
    only = A.only;
  }
