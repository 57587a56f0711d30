-- Divided rows: one pixel more.
use mathlib.Core.Path.{◌≡◌, refl, sym, ◌∙◌}
use mathlib.Core.List.{List}
use mathlib.Core.Bool.{Bool, true, false}
use Prim.Native.Nat.{ℕ, ◌+◌, ◌*◌, ◌/◌, ◌%◌, ◌≤◌, ◌<◌}
use native.Mathlib.Omega.{arith}
use lib.ListN.{length, get_or, set, length-set}
use lib.Seq.{get_or-set_same}
use borrow.Author.Tests.{eq-eqb, ne_eqb}
use Rattle.lanes.specs.Lanes.{Done}
use Rattle.lanes.proofs.Laws.{under_or, set-under, set_past}
use Rattle.lanes.proofs.Passes.{Ahead, more-done, to_end}
use Rattle.unpremultiply.specs.Unpremultiply.{unpremultiplied_channel}
use Rattle.unpremultiply.specs.Prepared.{divided_at, prepared_at}

pub at-alpha : (row : List ℕ) (j : ℕ) → j % 4 ≡ 3 → divided_at row j ≡ get_or row j 0
unfolding divided_at
at-alpha row j e = rw (eq-eqb (j % 4) 3 e)

-- a colour, and where its alpha lies
pub at-colour : (row : List ℕ) (j a : ℕ) → j % 4 < 3 → j / 4 * 4 + 3 ≡ a → divided_at row j ≡ unpremultiplied_channel (get_or row a 0) (get_or row j 0)
unfolding divided_at
at-colour row j a l e = rw (ne_eqb (j % 4) 3 (λ z. omega arith), e)

divided_ahead : Ahead divided_at
unfolding divided_at
divided_ahead d e j same = rw (same j (omega arith), same (j / 4 * 4 + 3) (omega arith))

-- the three colours of a pixel stored
pub pixel_divided : (row : List ℕ) (i b g r : ℕ) → i % 4 ≡ 0 → i + 4 ≤ length row →
    b ≡ unpremultiplied_channel (get_or row (i + 3) 0) (get_or row i 0) →
    g ≡ unpremultiplied_channel (get_or row (i + 3) 0) (get_or row (i + 1) 0) →
    r ≡ unpremultiplied_channel (get_or row (i + 3) 0) (get_or row (i + 2) 0) →
    Done (divided_at row) row (set (set (set row i b) (i + 1) g) (i + 2) r) i (i + 4)
pixel_divided row i b g r z h eb eg er = record {
  done = λ j l u.
      under_or j (i + 2)
      (λ p. under_or j (i + 1)
      (λ q. let e : j ≡ i = omega arith in rw e
      (set-under two (i + 2) i r (omega arith) ∙ (set-under one (i + 1) i g (omega arith) ∙ (get_or-set_same row i b 0 (omega arith)
      ∙ (eb ∙ sym (at-colour row i (i + 3) (omega arith) (omega arith)))))))
      (λ q. let e : j ≡ i + 1 = omega arith in rw e
      (set-under two (i + 2) (i + 1) r (omega arith) ∙ (get_or-set_same one (i + 1) g 0 (simp length-set (omega arith))
      ∙ (eg ∙ sym (at-colour row (i + 1) (i + 3) (omega arith) (omega arith)))))))
      (λ p. under_or j (i + 3)
      (λ q. let e : j ≡ i + 2 = omega arith in rw e
      (get_or-set_same two (i + 2) r 0 (simp length-set (omega arith))
      ∙ (er ∙ sym (at-colour row (i + 2) (i + 3) (omega arith) (omega arith)))))
      (λ q. past j (omega arith) ∙ sym (at-alpha row j (omega arith))));
  under = λ j l. set-under two (i + 2) j r (omega arith) ∙ (set-under one (i + 1) j g (omega arith) ∙ set-under row i j b l);
  past = λ j l. past j (omega arith);
}
  where
    one : List ℕ
    one = set row i b

    two : List ℕ
    two = set one (i + 1) g

    past : (j : ℕ) → i + 2 < j → get_or (set two (i + 2) r) j 0 ≡ get_or row j 0
    past j l = set_past two (i + 2) j r l ∙ (set_past one (i + 1) j g (omega arith) ∙ set_past row i j b (omega arith))

pub divided_more : (row₀ row row' : List ℕ) (x : ℕ) → Done (divided_at row₀) row₀ row 0 (x * 4) → Done (divided_at row) row row' (x * 4) (x * 4 + 4) →
    Done (divided_at row₀) row₀ row' 0 ((x + 1) * 4)
divided_more row₀ row row' x was did =
    more-done divided_at divided_ahead row₀ row row' 0 (x * 4) ((x + 1) * 4) (omega arith) (omega arith) was
    (to_end _ _ _ _ (x * 4 + 4) _ (omega arith) did)

-- a row that is divided, and one that stays
pub prepared : (b : Bool) (row row' : List ℕ) (n : ℕ) → b ≡ true → Done (divided_at row) row row' 0 n → Done (prepared_at b row) row row' 0 n
unfolding prepared_at
prepared b row row' n e did = rw e did

pub unprepared : (b : Bool) (row : List ℕ) (n : ℕ) → b ≡ false → Done (prepared_at b row) row row 0 n
unfolding prepared_at
unprepared b row n e = rw e (record { done = λ j h l. refl; under = λ j l. refl; past = λ j l. refl })
