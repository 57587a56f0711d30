-- Counts added to totals, all of them or none (02, request 14: "19, count too large, totals as before that file").
use Rattle.std.specs.Prelude.{◌≡◌, ◌⊎◌, ℕ, ◌+◌, ◌≤◌, ◌<◌, get_or}
use Rattle.totals.specs.declared.Totals.{Totals}
use Rattle.totals.specs.declared.Answer.{Answer}

-- "A count that would pass the largest 64-bit number"
abbrev pub largest : ℕ
largest = 18446744073709551615

-- where a count stands among the fourteen
pub record Position : Type 0 where
  pub index : ℕ
  pub below : index < 14

abbrev pub count_at : ℕ → Totals → ℕ
count_at k totals = get_or totals.counts k 0

-- what is answered where so much more is added to each count: counts of any kind, each with its place
pub record Added (Kind : Type 0) (place : Kind → ℕ) (totals : Totals) (more : Kind → ℕ) (answer : Answer) : Type 0 where
  -- where none grows too large, each count is what it was and what is added to it
  pub adds : ((count : Kind) → count_at (place count) totals + more count ≤ largest)
      → (answer.refusal ≡ 0) × ((count : Kind) → count_at (place count) answer.totals ≡ count_at (place count) totals + more count)
  -- where one does, it is refused, and the totals are as before
  pub refuses : (count : Kind) → largest < count_at (place count) totals + more count → (answer.refusal ≡ 19) × (answer.totals ≡ totals)
  -- and nothing else is answered
  pub only : (answer.refusal ≡ 0) ⊎ ((answer.refusal ≡ 19) × (answer.totals ≡ totals))

-- other totals added, each count to its own
abbrev pub AddsTotals : (totals other : Totals) → Answer → Type 0
AddsTotals totals other answer = Added Position (λ p. p.index) totals (λ p. count_at p.index other) answer

-- nothing is added, and nothing refused
abbrev pub unchanged : Totals → Answer
unchanged totals = record { refusal = 0; totals = totals }
