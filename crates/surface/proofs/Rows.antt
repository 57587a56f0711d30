-- Laws of `overwrite_rows`: each byte of them, and one row more. A place i from the first row on is
-- spoken of as a + (y * s + j), so that only `rows_at` opens the division.
use mathlib.Core.Path.{◌≡◌, refl, sym, ap, ◌∙◌}
use mathlib.Core.List.{List}
use mathlib.Core.Bool.{cond, ◌&&◌}
use mathlib.Core.Logic.{⊎_elim}
use Prim.Native.Nat.{ℕ, ◌+◌, ◌-◌, ◌*◌, ◌/◌, ◌%◌, ◌≤◌, ◌<◌, zero-le}
use native.Mathlib.Nat.{le_refl, suc-mul, mul-le-mul_right, mod-lt, div-add-mod'}
use native.Mathlib.Omega.{arith}
use lib.Arith.{digits_div, digits_mod}
use lib.Dec.{ltb}
use lib.ListN.{get_or}
use borrow.Author.Tests.{le-ltb, lt-ltb, le-leb, lt-leb}
use Rattle.word.proofs.Tests.{split}
use Rattle.surface.specs.Memory.{mapi, overwrite_range}
use Rattle.surface.specs.Rows.{overwrite_rows}
use Rattle.surface.proofs.Mapi.{is-mapi, mapi_ext, mapi-mapi}
use Rattle.surface.proofs.Parts.{within-before, within_in, within-past}

-- ---- bounds

pub next : (x w b : ℕ) → x < w → x * b + b ≤ w * b
next x w b h = rw suc-mul at (mul-le-mul_right b h)

-- the row y of h rows ends within what the last one ends within
pub row_within : (a s n h y l : ℕ) → y < h → a + (h - 1) * s + n ≤ l → a + y * s + n ≤ l
row_within a s n h y l u v =
    let z : y ≤ h - 1 = omega arith in
    omega (arith, mul-le-mul_right s z)

-- each place from a on is in some row's stride
pub record Place (a s i : ℕ) : Type 0 where
  pub y : ℕ
  pub j : ℕ
  pub inside : j < s
  pub is : i ≡ a + (y * s + j)

pub locate : (a s i : ℕ) → 0 < s → a ≤ i → Place a s i
locate a s i p l = record {
  y = (i - a) / s;
  j = (i - a) % s;
  inside = mod-lt (i - a) p;
  is = omega (arith, div-add-mod' (i - a) s);
}

-- ---- a byte of `overwrite_rows`

module _ (a s n h : ℕ) (f : ℕ → ℕ → ℕ) (old : ℕ) where
  pub rows_before : (i : ℕ) → i < a → overwrite_rows a s n h f i old ≡ old
  unfolding overwrite_rows
  rows_before i l = simp lt-leb

  pub rows_at : (y j : ℕ) → j < s → overwrite_rows a s n h f (a + (y * s + j)) old ≡ cond (ltb y h && ltb j n) (f y j) old
  unfolding overwrite_rows
  rows_at y j l =
      let z : a ≤ a + (y * s + j) = omega arith in
      let e : a + (y * s + j) - a ≡ y * s + j = omega arith in
      simp (le-leb, e, digits_div, digits_mod)

  pub rows_in : (y j : ℕ) → j < s → y < h → j < n → overwrite_rows a s n h f (a + (y * s + j)) old ≡ f y j
  rows_in y j l u v = rows_at y j l ∙ simp le-leb

  -- the same of a byte named otherwise
  pub rows_hit : (i y j : ℕ) → i ≡ a + (y * s + j) → j < s → y < h → j < n → overwrite_rows a s n h f i old ≡ f y j
  rows_hit i y j e l u v = rw e (rows_in y j l u v)

  rows_row : (y j : ℕ) → j < s → y < h → overwrite_rows a s n h f (a + (y * s + j)) old ≡ cond (ltb j n) (f y j) old
  rows_row y j l u = rows_at y j l ∙ simp (lt-ltb y h u)

  pub rows_gap : (y j : ℕ) → j < s → y < h → n ≤ j → overwrite_rows a s n h f (a + (y * s + j)) old ≡ old
  rows_gap y j l u v = rows_row y j l u ∙ simp le-ltb

  pub rows-below : (y j : ℕ) → j < s → h ≤ y → overwrite_rows a s n h f (a + (y * s + j)) old ≡ old
  rows-below y j l u = rows_at y j l ∙ simp le-ltb

-- rows go by what is asked for inside them alone
pub rows_ext : (a s n h : ℕ) (f g : ℕ → ℕ → ℕ) → 0 < s → ((y j : ℕ) → y < h → j < n → f y j ≡ g y j) → (i old : ℕ) →
    overwrite_rows a s n h f i old ≡ overwrite_rows a s n h g i old
rows_ext a s n h f g p q i old = ⊎_elim (λ (l : i < a). rows_before a s n h f old i l ∙ sym (rows_before a s n h g old i l)) (λ (l : a ≤ i). after (locate a s i p l)) (split i a)
  where
    at : (y j : ℕ) → j < s → overwrite_rows a s n h f (a + (y * s + j)) old ≡ overwrite_rows a s n h g (a + (y * s + j)) old
    at y j l =
        ⊎_elim
        (λ (u : y < h). ⊎_elim
        (λ (v : j < n). rows_in a s n h f old y j l u v ∙ q y j u v ∙ sym (rows_in a s n h g old y j l u v))
        (λ (v : n ≤ j). rows_gap a s n h f old y j l u v ∙ sym (rows_gap a s n h g old y j l u v))
        (split j n))
        (λ (u : h ≤ y). rows-below a s n h f old y j l u ∙ sym (rows-below a s n h g old y j l u))
        (split y h)

    after : Place a s i → overwrite_rows a s n h f i old ≡ overwrite_rows a s n h g i old
    after c = rw c.is (at c.y c.j c.inside)

-- what lies in no row is as it was
pub rows_else : (a s n h : ℕ) (f : ℕ → ℕ → ℕ) (i old : ℕ) → 0 < s → ((y j : ℕ) → y < h → j < n → j < s → i ≡ a + (y * s + j) → ⊥) →
    overwrite_rows a s n h f i old ≡ old
rows_else a s n h f i old p out = ⊎_elim (rows_before a s n h f old i) (λ l. after (locate a s i p l)) (split i a)
  where
    at : (y j : ℕ) → j < s → i ≡ a + (y * s + j) → overwrite_rows a s n h f (a + (y * s + j)) old ≡ old
    at y j l e =
        ⊎_elim
        (λ (u : y < h). ⊎_elim (λ (v : j < n). absurd (out y j u v l e)) (λ (v : n ≤ j). rows_gap a s n h f old y j l u v) (split j n))
        (λ (u : h ≤ y). rows-below a s n h f old y j l u)
        (split y h)

    after : Place a s i → overwrite_rows a s n h f i old ≡ old
    after c = ap (λ (k : ℕ). overwrite_rows a s n h f k old) c.is ∙ at c.y c.j c.inside c.is

-- rows that are still to come are as they were
pub rows-later : (a s n h : ℕ) (f : ℕ → ℕ → ℕ) (i old : ℕ) → 0 < s → a + h * s ≤ i → overwrite_rows a s n h f i old ≡ old
rows-later a s n h f i old p u = rows_else a s n h f i old p (λ y j v t l e. let z : y * s + s ≤ h * s = next y h s v in omega arith)

-- ---- a loop over rows that lends each row on: after y turns it is `mapi (rows a s n y f) xs₀`

-- one row more: what the row y gives, over what the rows before it gave
rows_step : (a s n y : ℕ) (f : ℕ → ℕ → ℕ) (i old : ℕ) → 0 < s → n ≤ s →
    overwrite_range (a + y * s) n (λ j o. f y j) i (overwrite_rows a s n y f i old) ≡ overwrite_rows a s n (y + 1) f i old
rows_step a s n y f i old p w = ⊎_elim before (λ l. after (locate a s i p l)) (split i a)
  where
    W : ℕ → ℕ → ℕ
    W = overwrite_range (a + y * s) n (λ j o. f y j)

    before : i < a → W i (overwrite_rows a s n y f i old) ≡ overwrite_rows a s n (y + 1) f i old
    before l = ap (W i) (rows_before a s n y f old i l) ∙ within-before (a + y * s) n (λ j o. f y j) i old (omega arith) ∙ sym (rows_before a s n (y + 1) f old i l)

    R : ℕ → ℕ → ℕ
    R h k = overwrite_rows a s n h f k old

    same : (j : ℕ) → j < s → W (a + (y * s + j)) (R y (a + (y * s + j))) ≡ R (y + 1) (a + (y * s + j))
    same j l =
        let k : ℕ = a + (y * s + j) in
        let e : k - (a + y * s) ≡ j = omega arith in
        ap (W k) (rows-below a s n y f old y j l (le_refl y))
        ∙ ⊎_elim
        (λ v. within_in (a + y * s) n (λ j o. f y j) k old (omega arith) (omega arith) ∙ ap (f y) e ∙ sym (rows_in a s n (y + 1) f old y j l (omega arith) v))
        (λ v. within-past (a + y * s) n (λ j o. f y j) k old (omega arith) ∙ sym (rows_gap a s n (y + 1) f old y j l (omega arith) v))
        (split j n)

    at : (y' j : ℕ) → j < s → W (a + (y' * s + j)) (R y (a + (y' * s + j))) ≡ R (y + 1) (a + (y' * s + j))
    at y' j l = ⊎_elim less (λ u. ⊎_elim more (λ v. let e : y' ≡ y = omega arith in rw e (same j l)) (split y y')) (split y' y)
      where
        k : ℕ
        k = a + (y' * s + j)

        less : y' < y → W k (R y k) ≡ R (y + 1) k
        less u =
            let z : y' * s + s ≤ y * s = next y' y s u in
            within-before (a + y * s) n (λ j o. f y j) k (R y k) (omega arith) ∙ rows_row a s n y f old y' j l u ∙ sym (rows_row a s n (y + 1) f old y' j l (omega arith))

        more : y < y' → W k (R y k) ≡ R (y + 1) k
        more u =
            let z : y * s + s ≤ y' * s = next y y' s u in
            ap (W k) (rows-below a s n y f old y' j l (omega arith))
            ∙ within-past (a + y * s) n (λ j o. f y j) k old (omega arith)
            ∙ sym (rows-below a s n (y + 1) f old y' j l (omega arith))

    after : Place a s i → W i (R y i) ≡ R (y + 1) i
    after c = rw c.is (at c.y c.j c.inside)

rows_none : (a s n : ℕ) (f : ℕ → ℕ → ℕ) (i old : ℕ) → overwrite_rows a s n 0 f i old ≡ old
unfolding overwrite_rows
rows_none a s n f i old = ⊎_elim (λ (l : i < a). simp lt-leb) (λ (l : a ≤ i). simp (le-leb, le-ltb ((i - a) / s) 0 zero-le)) (split i a)

module _ (a s n : ℕ) (f : ℕ → ℕ → ℕ) (xs₀ : List ℕ) where
  -- before the first turn
  pub none_rows : xs₀ ≡ mapi (overwrite_rows a s n 0 f) xs₀
  none_rows = is-mapi (overwrite_rows a s n 0 f) xs₀ xs₀ refl (λ i l. sym (rows_none a s n f i (get_or xs₀ i 0)))

  -- a turn that changes the row y in the whole
  pub turn_rows : (xs ys : List ℕ) (y r : ℕ) → 0 < s → n ≤ s → r ≡ a + y * s → xs ≡ mapi (overwrite_rows a s n y f) xs₀ →
      ys ≡ mapi (overwrite_range r n (λ j o. f y j)) xs → ys ≡ mapi (overwrite_rows a s n (y + 1) f) xs₀
  turn_rows xs ys y r p w q i m =
      m
      ∙ ap (λ (l : List ℕ). mapi (overwrite_range r n (λ j o. f y j)) l) i
      ∙ mapi-mapi _ _ xs₀
      ∙ mapi_ext _ _ xs₀ (λ i l. rw q (rows_step a s n y f i (get_or xs₀ i 0) p w))
