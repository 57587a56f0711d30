-- The alpha modes, one pixel more.
use mathlib.Core.Path.{◌≡◌, refl, sym, ap, ◌∙◌}
use mathlib.Core.List.{List, [], ◌∷◌}
use mathlib.Core.Bool.{Bool, true, false, cond}
use Prim.Native.Nat.{ℕ, suc, ◌+◌, ◌*◌, ◌/◌, ◌%◌, ◌≤◌, ◌<◌}
use native.Mathlib.Omega.{arith}
use lib.Dec.{eqb}
use lib.ListN.{length, get_or, set}
use lib.Seq.{set-get_or, get_or-set_same}
use borrow.Author.Tests.{eq-eqb, ne_eqb}
use Rattle.word.specs.Word.{byte_of, le32_at, le_bytes}
use Rattle.word.specs.Splice.{spliced}
use Rattle.word.proofs.Splice.{sets-spliced}
use Rattle.pixel.specs.Alpha.{effective_alpha}
use Rattle.pixel.specs.declared.blend.AlphaMode.{AlphaMode}
use Rattle.pixel.specs.declared.blend.AlphaMode.TheVariants.{Pixel}
use Rattle.lanes.specs.Lanes.{Done}
use Rattle.lanes.proofs.Laws.{under_or, set-under, set_past}
use Rattle.lanes.proofs.Passes.{Ahead, more-done}
use Rattle.composite.specs.Mode.{mode_at}

pub pixel_done : (g n : ℕ) (row : List ℕ) → Done (mode_at Pixel g row) row row 0 n
unfolding mode_at
pixel_done g n row = record { done = λ j h l. sym (same (eqb (j % 4) 3) (get_or row j 0)); under = λ j l. refl; past = λ j l. refl }
  where
    same : (b : Bool) (x : ℕ) → cond b x x ≡ x
    same true x = refl
    same false x = refl

module _ (mode : AlphaMode) (g : ℕ) where
  pub at-alpha : (row : List ℕ) (j : ℕ) → j % 4 ≡ 3 → mode_at mode g row j ≡ effective_alpha mode g (get_or row j 0)
  unfolding mode_at
  at-alpha row j e = rw (eq-eqb (j % 4) 3 e)

  pub at_other : (row : List ℕ) (j : ℕ) → j % 4 < 3 → mode_at mode g row j ≡ get_or row j 0
  unfolding mode_at
  at_other row j l = rw (ne_eqb (j % 4) 3 (λ e. omega arith))

  mode_ahead : Ahead (mode_at mode g)
  unfolding mode_at
  mode_ahead d e j same = rw (same j (omega arith))

  one_pixel : (row : List ℕ) (x v : ℕ) → x * 4 + 3 < length row → v ≡ effective_alpha mode g (get_or row (x * 4 + 3) 0) →
      Done (mode_at mode g row) row (set row (x * 4 + 3) v) (x * 4) ((x + 1) * 4)
  one_pixel row x v h e = record {
    done = λ j l u. under_or j (x * 4 + 3)
        (λ q. set-under row (x * 4 + 3) j v q ∙ sym (at_other row j (omega arith)))
        (λ q. let i : j ≡ x * 4 + 3 = omega arith in rw i (get_or-set_same row (x * 4 + 3) v 0 h ∙ (e ∙ sym (at-alpha row (x * 4 + 3) (omega arith)))));
    under = λ j l. set-under row (x * 4 + 3) j v (omega arith);
    past = λ j l. set_past row (x * 4 + 3) j v (omega arith);
  }

  pub pixel_more : (row₀ row : List ℕ) (x v : ℕ) → x * 4 + 3 < length row → v ≡ effective_alpha mode g (get_or row (x * 4 + 3) 0) →
      Done (mode_at mode g row₀) row₀ row 0 (x * 4) → Done (mode_at mode g row₀) row₀ (set row (x * 4 + 3) v) 0 ((x + 1) * 4)
  pixel_more row₀ row x v h e was =
      more-done (mode_at mode g) mode_ahead row₀ row (set row (x * 4 + 3) v) 0 (x * 4) ((x + 1) * 4) (omega arith) (omega arith) was (one_pixel row x v h e)

-- the alpha of a pixel by its word
pub top-is : (row : List ℕ) (o w : ℕ) → ((j : ℕ) → get_or row j 0 < 256) → w ≡ le32_at row o → w / 16777216 ≡ get_or row (o + 3) 0
unfolding le32_at
top-is row o w in_row is-w = omega (arith, in_row o, in_row (o + 1), in_row (o + 2), in_row (o + 3))

-- a pixel stored as the word that it was, with another alpha
module _ (row : List ℕ) (o w a v : ℕ) (fits : o + 4 ≤ length row) (in_row : (j : ℕ) → get_or row j 0 < 256) (is-w : w ≡ le32_at row o) (small : a ≤ 255) (is-v : v ≡ w % 16777216 + a * 16777216) where
  blue : byte_of v 0 ≡ get_or row o 0
  unfolding byte_of le32_at
  blue = omega (arith, in_row o, in_row (o + 1), in_row (o + 2), in_row (o + 3))

  green : byte_of v 1 ≡ get_or row (o + 1) 0
  unfolding byte_of le32_at
  green = omega (arith, in_row o, in_row (o + 1), in_row (o + 2), in_row (o + 3))

  red : byte_of v 2 ≡ get_or row (o + 2) 0
  unfolding byte_of le32_at
  red = omega (arith, in_row o, in_row (o + 1), in_row (o + 2), in_row (o + 3))

  alpha : byte_of v 3 ≡ a
  unfolding byte_of le32_at
  alpha = omega (arith, in_row o, in_row (o + 1), in_row (o + 2), in_row (o + 3))

  pub alpha_put : spliced o (le_bytes v) row ≡ set row (o + 3) a
  unfolding le_bytes
  alpha_put =
      let e1 : o + 1 ≡ suc o = omega arith in
      let e2 : o + 2 ≡ suc (suc o) = omega arith in
      let e3 : suc (suc (suc o)) ≡ o + 3 = omega arith in
      let s0 : set row o (byte_of v 0) ≡ row = ap (set row o) blue ∙ set-get_or row o 0 in
      let s1 : set row (suc o) (byte_of v 1) ≡ row = ap (set row (suc o)) (green ∙ ap (λ (i : ℕ). get_or row i 0) e1) ∙ set-get_or row (suc o) 0 in
      let s2 : set row (suc (suc o)) (byte_of v 2) ≡ row = ap (set row (suc (suc o))) (red ∙ ap (λ (i : ℕ). get_or row i 0) e2) ∙ set-get_or row (suc (suc o)) 0 in
      sym (sets-spliced o (byte_of v 0 ∷ byte_of v 1 ∷ byte_of v 2 ∷ byte_of v 3 ∷ []) row fits)
      ∙ (ap (λ (r : List ℕ). set (set (set r (suc o) (byte_of v 1)) (suc (suc o)) (byte_of v 2)) (suc (suc (suc o))) (byte_of v 3)) s0
      ∙ (ap (λ (r : List ℕ). set (set r (suc (suc o)) (byte_of v 2)) (suc (suc (suc o))) (byte_of v 3)) s1
      ∙ (ap (λ (r : List ℕ). set r (suc (suc (suc o))) (byte_of v 3)) s2
      ∙ (ap (λ (i : ℕ). set row i (byte_of v 3)) e3 ∙ ap (set row (o + 3)) alpha))))
