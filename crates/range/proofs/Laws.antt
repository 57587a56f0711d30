-- What the tests on ranges say of their bytes.
use mathlib.Core.Path.{◌≡◌}
use mathlib.Core.Bool.{true, false}
use Prim.Native.Nat.{ℕ, ◌≤◌, min, max}
use native.Mathlib.Omega.{arith}
use lib.Dec.{leb}
use borrow.Author.Tests.{leb-true, ltb-true, ltb-false}
use Rattle.range.specs.declared.Range.{Range}
use Rattle.range.specs.Range.{Contains, contained_in, overlaps}
use Rattle.word.proofs.Tests.{and-true}

-- the two comparisons behind `contained_in`
pub inside-ends : (r q : Range) → contained_in r q ≡ true → (q.start ≤ r.start) × (r.end ≤ q.end)
inside-ends r q e =
    let both = and-true (leb q.start r.start) (leb r.end q.end) e in
    (leb-true q.start r.start both.0, leb-true r.end q.end both.1)

-- ranges that share a byte have one: the later start
pub shared-byte : (r q : Range) → overlaps r q ≡ true → Contains r (max r.start q.start) × Contains q (max r.start q.start)
shared-byte r q e =
    let l = ltb-true (max r.start q.start) (min r.end q.end) e in
    ((omega arith, omega arith), (omega arith, omega arith))

-- ranges that share none have none
pub apart : (r q : Range) → overlaps r q ≡ false → (i : ℕ) → Contains r i → Contains q i → ⊥
apart r q e i h k =
    let l = ltb-false (max r.start q.start) (min r.end q.end) e in
    omega arith
