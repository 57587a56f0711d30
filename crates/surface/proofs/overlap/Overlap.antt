-- What it means that rows meet, and the one row to look at where the strides are equal.
use mathlib.Core.Path.{◌≡◌, refl, sym, ap, ◌∙◌}
use mathlib.Core.Bool.{Bool, true, false, cond, ◌&&◌, ◌||◌, false≢true}
use mathlib.Core.Logic.{⊎_elim}
use Prim.Native.Nat.{ℕ, zero, suc, ◌+◌, ◌-◌, ◌*◌, ◌/◌, ◌%◌, ◌≤◌, ◌<◌, min, max}
use native.Mathlib.Nat.{mul-le-mul_right, mod-lt, div-add-mod', pos_of_ne-zero}
use native.Mathlib.Omega.{arith}
use lib.Dec.{eqb, ltb}
use borrow.Author.Tests.{ltb-true, lt-ltb}
use Rattle.word.proofs.Tests.{split, and-true}
use Rattle.range.specs.Range.{overlaps}
use Rattle.range.proofs.Laws.{apart}
use Rattle.surface.specs.declared.Surface.{Surface}
use Rattle.surface.specs.Surface.{row_length, row_start, span, InRow, DisjointRows}
use Rattle.surface.specs.Overlap.{exists_below, rows_overlap, surfaces_overlap, StartsNoLater}
use Rattle.surface.proofs.Outside.{byte_in-span}

-- ---- some number below n

some-true : (n : ℕ) (test : ℕ → Bool) → exists_below n test ≡ true → (k : ℕ) × (k < n) × (test k ≡ true)
unfolding exists_below
some-true zero test e = absurd (false≢true e)
some-true (suc n) test e = go (test n) refl e (some-true n test)
  where
    go : (t : Bool) → test n ≡ t → t || exists_below n test ≡ true → (exists_below n test ≡ true → (k : ℕ) × (k < n) × (test k ≡ true)) →
        (k : ℕ) × (k < suc n) × (test k ≡ true)
    go true h e rest = (n, omega arith, h)
    go false h e rest = let r = rest e in (r.0, omega arith, r.2)

true-some : (n : ℕ) (test : ℕ → Bool) (k : ℕ) → k < n → test k ≡ true → exists_below n test ≡ true
unfolding exists_below
true-some zero test k l h = absurd (omega arith)
true-some (suc n) test k l h =
    ⊎_elim
    (λ (u : k < n). or_right (test n) (exists_below n test) (true-some n test k u h))
    (λ (u : n ≤ k). let z : n ≡ k = omega arith in ap (λ (t : Bool). t || exists_below n test) (ap test z ∙ h))
    (split k n)
  where
    or_right : (a b : Bool) → b ≡ true → a || b ≡ true
    or_right true b e = refl
    or_right false b e = e

-- ---- rows that meet

-- row y of one and row v of the other share a byte
pub record Meeting (a b : Surface) : Type 0 where
  pub y : ℕ
  pub v : ℕ
  pub first : y < a.height
  pub second : v < b.height
  pub common : max (row_start a y) (row_start b v) < min (row_start a y + row_length a) (row_start b v + row_length b)

pub meeting : (a b : Surface) → rows_overlap a b ≡ true → Meeting a b
unfolding rows_overlap
meeting a b e =
    let p = some-true a.height _ e in
    let q = some-true b.height _ p.2 in
    record { y = p.0; v = q.0; first = p.1; second = q.1; common = ltb-true _ _ q.2 }

pub meeting_true : (a b : Surface) → Meeting a b → rows_overlap a b ≡ true
unfolding rows_overlap
meeting_true a b m = true-some a.height _ m.y m.first (true-some b.height _ m.v m.second (lt-ltb _ _ m.common))

-- a test that passes exactly where rows meet
pub exactly : (a b : Surface) (t : Bool) → (t ≡ true → Meeting a b) → (Meeting a b → t ≡ true) → t ≡ rows_overlap a b
exactly a b true f g = sym (meeting_true a b (f refl))
exactly a b false f g = go (rows_overlap a b) refl
  where
    go : (u : Bool) → rows_overlap a b ≡ u → false ≡ u
    go true e = g (meeting a b e)
    go false e = refl

turned : (a b : Surface) → Meeting a b → Meeting b a
turned a b m = record { y = m.v; v = m.y; first = m.second; second = m.first; common = omega (arith, m.common) }

-- which of the two comes first does not matter
pub rows-turned : (a b : Surface) → rows_overlap a b ≡ rows_overlap b a
rows-turned a b = exactly b a (rows_overlap a b) (λ e. turned a b (meeting a b e)) (λ m. meeting_true a b (turned b a m))

-- ---- b begins no earlier, and both have the same stride: row r of a and the first of b decide

module _ (a b : Surface) (o : StartsNoLater a b) where
  -- row r is the first that ends past b's first byte, or all rows of a lie at one place
  pub data First (r : ℕ) : Type 0 where
    near : r ≡ 0 → b.address < a.address + row_length a → First r
    flat : r ≡ 0 → a.stride ≡ 0 → First r
    far : (q j : ℕ) → r ≡ q + 1 → b.address ≡ a.address + row_length a + (q * a.stride + j) → j < a.stride → First r

  -- it begins within a stride of b, if not before
  pub first-down : (r : ℕ) → First r → r * a.stride ≤ b.address + a.stride
  first-down r (near z l) = rw z (omega arith)
  first-down r (flat z s) = rw z (omega arith)
  first-down r (far q j z g u) = rw z (omega arith)

  -- how it is worked out
  pub far_off : (r : ℕ) → a.address + row_length a ≤ b.address → ¬ (a.stride ≡ 0) → r ≡ (b.address - (a.address + row_length a)) / a.stride + 1 → First r
  far_off r l s z =
      let d : ℕ = b.address - (a.address + row_length a) in
      far (d / a.stride) (d % a.stride) z (omega (arith, div-add-mod' d a.stride)) (mod-lt d (pos_of_ne-zero s))

  abbrev RowMeets : ℕ → Type 0
  RowMeets r = (r < a.height) × (0 < b.height) × (max (row_start a r) b.address < min (row_start a r + row_length a) (b.address + row_length b))

  -- if any rows meet, these do
  meets_row : (r : ℕ) → First r → Meeting a b → RowMeets r
  meets_row r (near z l) m = rw z (omega (arith, m.first), omega (arith, m.second), omega (arith, o.address, m.common))
  meets_row r (flat z s) m =
      let c = rw (← o.stride, s) at m.common in
      rw z (omega (arith, m.first), omega (arith, m.second), omega (arith, c))
  meets_row r (far q j z g u) m = ⊎_elim late (λ l. absurd (early l)) (split (q + m.v) m.y)
    where
      same : m.v * b.stride ≡ m.v * a.stride
      same = ap (λ (s : ℕ). m.v * s) (sym o.stride)

      late : q + m.v < m.y → RowMeets r
      late l =
          let p : (q + m.v + 1) * a.stride ≤ m.y * a.stride = mul-le-mul_right a.stride (omega arith) in
          rw z (omega (arith, m.first), omega (arith, m.second), omega (arith, same, m.common))

      early : m.y ≤ q + m.v → ⊥
      early l =
          let p : m.y * a.stride ≤ (q + m.v) * a.stride = mul-le-mul_right a.stride l in
          omega (arith, same, m.common)

  met : (r : ℕ) → RowMeets r → Meeting a b
  met r t = record { y = r; v = 0; first = t.0; second = t.1; common = omega (arith, t.2) }

  pub row_decides : (r end from to : ℕ) → First r → end ≡ row_start a r + row_length a → from ≡ b.address → to ≡ b.address + row_length b →
      ltb r a.height && ltb 0 b.height && overlaps (record { start = row_start a r; end = end }) (record { start = from; end = to }) ≡ rows_overlap a b
  row_decides r end from to f e g h =
      rw (e, g, h)
      (exactly a b _
      (λ t. let p = and-true _ _ t in
      let q = and-true _ _ p.0 in
      met r (ltb-true _ _ q.0, ltb-true _ _ q.1, ltb-true _ _ p.1))
      (λ m. let p = meets_row r f m in
      simp (lt-ltb _ _ p.0, lt-ltb _ _ p.1, lt-ltb _ _ p.2)))

-- ---- what is separate

-- rows that do not meet have no byte in common
pub rows-separate : (a b : Surface) → rows_overlap a b ≡ false → DisjointRows a b
rows-separate a b e i y j v k r q =
    false≢true (sym e ∙ meeting_true a b (record { y = y; v = v; first = r.row; second = q.row; common = omega (arith, r.address, r.column, q.address, q.column) }))

-- and rows that meet have one: the later of their starts
pub common-byte : (a b : Surface) → rows_overlap a b ≡ true → (i : ℕ) × (y : ℕ) × (j : ℕ) × (v : ℕ) × (k : ℕ) × InRow a i y j × InRow b i v k
common-byte a b e =
    let m = meeting a b e in
    let i : ℕ = max (row_start a m.y) (row_start b m.v) in (
      i,
      m.y,
      i - row_start a m.y,
      m.v,
      i - row_start b m.v,
      record { row = m.first; column = omega (arith, m.common); address = omega arith },
      record { row = m.second; column = omega (arith, m.common); address = omega arith },
    )

-- surfaces that do not meet have no byte of a row in common
pub separate : (a b : Surface) → surfaces_overlap a b ≡ false → DisjointRows a b
unfolding surfaces_overlap
separate a b e = go (eqb a.stride b.stride) e
  where
    go : (t : Bool) → cond t (rows_overlap a b) (overlaps (span a) (span b)) ≡ false → DisjointRows a b
    go true e = rows-separate a b e
    go false e = λ i y j v k r q. apart (span a) (span b) e i (byte_in-span a i y j r) (byte_in-span b i v k q)
