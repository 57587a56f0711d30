-- Four alphas by their sum, and sixteen bytes that are 0.
use mathlib.Core.Path.{◌≡◌, refl, sym, ◌∙◌, subst}
use mathlib.Core.Bool.{Bool, true, false, ◌&&◌}
use mathlib.Core.List.{List}
use Prim.Native.Nat.{ℕ, ◌+◌, ◌*◌, ◌≤◌, ◌<◌}
use native.Mathlib.Omega.{arith}
use lib.Dec.{eqb}
use lib.ListN.{get_or}
use borrow.Author.Tests.{eqb-true, eq-eqb}
use Rattle.lanes.proofs.Laws.{under_or, both}
use Rattle.lanes.specs.Alphas.{alphas_are, alpha_sum}

-- two tests that hold together are the same
same_test : (a b : Bool) → (a ≡ true → b ≡ true) → (b ≡ true → a ≡ true) → a ≡ b
same_test true b f g = sym (f refl)
same_test false true f g = g refl
same_test false false f g = refl

and-holds : (a b : Bool) → a ≡ true → b ≡ true → a && b ≡ true
and-holds a b e f = rw (e, f)

-- four alphas that are one number
pub record Are (s : List ℕ) (o v : ℕ) : Type 0 where
  pub first : get_or s (o + 3) 0 ≡ v
  pub second : get_or s (o + 7) 0 ≡ v
  pub third : get_or s (o + 11) 0 ≡ v
  pub fourth : get_or s (o + 15) 0 ≡ v

pub are : (v : ℕ) (s : List ℕ) (o : ℕ) → alphas_are v s o ≡ true → Are s o v
unfolding alphas_are
are v s o h =
    let p = both _ _ h in
    let a = both _ _ p.0 in
    let b = both _ _ p.1 in
    record { first = eqb-true _ v a.0; second = eqb-true _ v a.1; third = eqb-true _ v b.0; fourth = eqb-true _ v b.1 }

alphas_are-true : (v : ℕ) (s : List ℕ) (o : ℕ) → Are s o v → alphas_are v s o ≡ true
unfolding alphas_are
alphas_are-true v s o a =
    and-holds _ _ (and-holds _ _ (eq-eqb _ v a.first) (eq-eqb _ v a.second)) (and-holds _ _ (eq-eqb _ v a.third) (eq-eqb _ v a.fourth))

module _ (s : List ℕ) (o t : ℕ) (in-s : (j : ℕ) → get_or s j 0 < 256) (sum : t ≡ alpha_sum s o) where
  pub full_sum : eqb t 1020 ≡ alphas_are 255 s o
  full_sum =
      let a = in-s (o + 3) in let b = in-s (o + 7) in let c = in-s (o + 11) in let d = in-s (o + 15) in
      same_test (eqb t 1020) (alphas_are 255 s o)
      (λ h. let z : t ≡ 1020 = eqb-true t 1020 h in alphas_are-true 255 s o (record { first = omega arith; second = omega arith; third = omega arith; fourth = omega arith }))
      (λ h. let r = are 255 s o h in eq-eqb t 1020 (omega (arith, r.first, r.second, r.third, r.fourth)))

  pub empty-sum : eqb t 0 ≡ alphas_are 0 s o
  empty-sum =
      same_test (eqb t 0) (alphas_are 0 s o)
      (λ h. let z : t ≡ 0 = eqb-true t 0 h in alphas_are-true 0 s o (record { first = omega arith; second = omega arith; third = omega arith; fourth = omega arith }))
      (λ h. let r = are 0 s o h in eq-eqb t 0 (omega (arith, r.first, r.second, r.third, r.fourth)))

-- A word of four bytes that is 0.
word-zero : (s : List ℕ) (p : ℕ) → get_or s p 0 + 256 * get_or s (p + 1) 0 + 65536 * get_or s (p + 2) 0 + 16777216 * get_or s (p + 3) 0 ≡ 0 → (j : ℕ) → p ≤ j → j < p + 4 → get_or s j 0 ≡ 0
word-zero s p z j h l =
    under_or j (p + 2)
    (λ a. under_or j (p + 1) (λ b. subst (λ (q : ℕ). get_or s q 0 ≡ 0) (omega arith) (let e : get_or s p 0 ≡ 0 = omega arith in e)) (λ b. subst (λ (q : ℕ). get_or s q 0 ≡ 0) (omega arith) (let e : get_or s (p + 1) 0 ≡ 0 = omega arith in e)))
    (λ a. under_or j (p + 3) (λ b. subst (λ (q : ℕ). get_or s q 0 ≡ 0) (omega arith) (let e : get_or s (p + 2) 0 ≡ 0 = omega arith in e)) (λ b. subst (λ (q : ℕ). get_or s q 0 ≡ 0) (omega arith) (let e : get_or s (p + 3) 0 ≡ 0 = omega arith in e)))

pub words-zero : (s : List ℕ) (o a b c d : ℕ) → a ≡ get_or s o 0 + 256 * get_or s (o + 1) 0 + 65536 * get_or s (o + 2) 0 + 16777216 * get_or s (o + 3) 0 → b ≡ get_or s (o + 4) 0 + 256 * get_or s (o + 4 + 1) 0 + 65536 * get_or s (o + 4 + 2) 0 + 16777216 * get_or s (o + 4 + 3) 0 → c ≡ get_or s (o + 8) 0 + 256 * get_or s (o + 8 + 1) 0 + 65536 * get_or s (o + 8 + 2) 0 + 16777216 * get_or s (o + 8 + 3) 0 → d ≡ get_or s (o + 12) 0 + 256 * get_or s (o + 12 + 1) 0 + 65536 * get_or s (o + 12 + 2) 0 + 16777216 * get_or s (o + 12 + 3) 0 → a + b + c + d ≡ 0 → (j : ℕ) → o ≤ j → j < o + 16 → get_or s j 0 ≡ 0
words-zero s o a b c d ea eb ec ed z j h l =
    under_or j (o + 8)
    (λ p. under_or j (o + 4) (λ q. word-zero s o (sym ea ∙ omega arith) j (omega arith) (omega arith)) (λ q. word-zero s (o + 4) (sym eb ∙ omega arith) j (omega arith) (omega arith)))
    (λ p. under_or j (o + 12) (λ q. word-zero s (o + 8) (sym ec ∙ omega arith) j (omega arith) (omega arith)) (λ q. word-zero s (o + 12) (sym ed ∙ omega arith) j (omega arith) (omega arith)))
