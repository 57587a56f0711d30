-- A row of a surface holds a byte just if the test says so.
use mathlib.Core.Path.{◌≡◌, sym, ◌∙◌}
use mathlib.Core.Bool.{true, false, ◌&&◌, ◌||◌, false≢true}
use mathlib.Core.Logic.{◌⊎◌, inl, inr}
use Prim.Native.Nat.{ℕ, ◌+◌, ◌-◌, ◌*◌, ◌/◌, ◌%◌, ◌≤◌, ◌<◌}
use native.Mathlib.Nat.{div-add-mod'}
use native.Mathlib.Omega.{arith}
use lib.Arith.{digits_div, digits_mod}
use lib.Dec.{eqb, leb, ltb}
use borrow.Author.Tests.{ltb-true, ltb-false, leb-true, eqb-false, lt-ltb, le-ltb, le-leb, lt-leb, ne_eqb}
use Rattle.word.proofs.Tests.{split, and-true, or_false}
use Rattle.surface.specs.declared.Surface.{Surface}
use Rattle.surface.specs.Surface.{row_length, InRow}
use Rattle.provenance.specs.Touched.{holds}

module _ (s : Surface) (i : ℕ) where
  -- which row and which of its bytes
  pub holds_row : holds s i ≡ true → InRow s i ((i - s.address) / s.stride) ((i - s.address) % s.stride)
  unfolding holds
  holds_row e =
      let y : ℕ = (i - s.address) / s.stride in
      let j : ℕ = (i - s.address) % s.stride in
      let four = and-true (ltb 0 s.stride && leb s.address i && ltb y s.height) (ltb j (row_length s)) e in
      let three = and-true (ltb 0 s.stride && leb s.address i) (ltb y s.height) four.0 in
      let two = and-true (ltb 0 s.stride) (leb s.address i) three.0 in
      let from : s.address ≤ i = leb-true s.address i two.1 in
      record {
        row = ltb-true y s.height three.1;
        column = ltb-true j (row_length s) four.1;
        address = omega (arith, div-add-mod' (i - s.address) s.stride);
      }

  row-holds : 0 < s.stride → row_length s ≤ s.stride → (y j : ℕ) → InRow s i y j → holds s i ≡ true
  unfolding holds
  row-holds some roomy y j r =
      let from : i - s.address ≡ y * s.stride + j = omega (arith, r.address) in
      let less : j < s.stride = omega (arith, r.column) in
      let at : (i - s.address) / s.stride ≡ y = rw from (digits_div y less) in
      let on : (i - s.address) % s.stride ≡ j = rw from (digits_mod y less) in
      let past : s.address ≤ i = omega (arith, r.address) in
      rw (at, on, lt-ltb 0 s.stride some, le-leb s.address i past, lt-ltb y s.height r.row, lt-ltb j (row_length s) r.column)

  pub holds_out : 0 < s.stride → row_length s ≤ s.stride → holds s i ≡ false → (y j : ℕ) → InRow s i y j → ⊥
  holds_out some roomy e y j r = false≢true (sym e ∙ row-holds some roomy y j r)

  -- ---- the test by its first branch

  pub holds-none : eqb s.stride 0 || ltb i s.address ≡ true → false ≡ holds s i
  unfolding holds
  holds-none e = go (split 0 s.stride)
    where
      go : (0 < s.stride) ⊎ (s.stride ≤ 0)
          → false ≡ ltb 0 s.stride && leb s.address i && ltb ((i - s.address) / s.stride) s.height && ltb ((i - s.address) % s.stride) (row_length s)
      go (inl some) =
          let far : ltb i s.address ≡ true = rw (ne_eqb s.stride 0 (λ (z : s.stride ≡ 0). omega arith)) at e in
          rw (lt-ltb 0 s.stride some, lt-leb s.address i (ltb-true i s.address far))
      go (inr none) = rw (le-ltb 0 s.stride none)

  module _ (e : eqb s.stride 0 || ltb i s.address ≡ false) where
    pub some-stride : 0 < s.stride
    some-stride = let z = eqb-false s.stride 0 (or_false (eqb s.stride 0) (ltb i s.address) e).0 in go (split 0 s.stride) z
      where
        go : (0 < s.stride) ⊎ (s.stride ≤ 0) → (s.stride ≡ 0 → ⊥) → 0 < s.stride
        go (inl some) z = some
        go (inr none) z = absurd (z (omega arith))

    pub from_start : s.address ≤ i
    from_start = ltb-false i s.address (or_false (eqb s.stride 0) (ltb i s.address) e).1

    pub holds-some : ltb ((i - s.address) / s.stride) s.height && ltb ((i - s.address) % s.stride) (row_length s) ≡ holds s i
    unfolding holds
    holds-some = rw (lt-ltb 0 s.stride some-stride, le-leb s.address i from_start)
