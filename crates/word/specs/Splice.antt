-- A range of a list's elements, replaced by as many others.
use Rattle.std.specs.Prelude.{ℕ, ◌+◌, List, ◌++◌, length, take, drop}

-- xs with the elements of ys from index `at` on; all others as they were
unfoldable pub spliced : ℕ → List ℕ → List ℕ → List ℕ
spliced at ys xs = take at xs ++ (ys ++ drop (at + length ys) xs)
