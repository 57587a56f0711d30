use Prim.Native.Nat.{◌-◌, ◌≤◌, ◌<◌}
use mathlib.Core.Path.{◌≡◌}
use Rattle.score.specs.Coverage.{greatest_to}
use Rattle.score.proofs.greatest.Given as goal

-- The search by halves. What is found isn't above the product, and the greatest number lies before `end`.
abbrev pub invariant-loop-end : goal.invariant-loop-end
invariant-loop-end l = (l.found < l.end) × (l.end ≤ 256) × (greatest_to l.found l.product ≡ l.found) × (greatest_to (l.end - 1) l.product ≡ greatest_to 255 l.product)

abbrev pub decreases-loop-end : goal.decreases-loop-end
decreases-loop-end l = l.end - l.found
