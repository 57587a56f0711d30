-- Four pixels in eight lanes, and four pixels whose alphas are all 255 or all 0.
use mathlib.Core.Path.{◌≡◌, refl, sym, ap, ◌∙◌, subst}
use mathlib.Core.Bool.{true}
use mathlib.Core.Logic.{⊎_elim}
use mathlib.Core.List.{List}
use Prim.Native.Nat.{ℕ, ◌+◌, ◌-◌, ◌*◌, ◌/◌, ◌%◌, ◌≤◌, ◌<◌}
use native.Mathlib.Omega.{arith}
use native.Mathlib.Nat.{eq-zero-or-pos}
use lib.ListN.{get_or}
use Rattle.pixel.specs.Blending.{factor_value, blended_channel}
use Rattle.pixel.specs.Rules.{blend_mode_factors}
use Rattle.pixel.specs.declared.blend.BlendFactors.{BlendFactors}
use Rattle.pixel.specs.declared.blend.BlendMode.TheVariants.{SrcOver, Add}
use Rattle.lanes.specs.Lanes.{two, Done}
use Rattle.lanes.proofs.Laws.{under_or, two-low, two_high}
use Rattle.lanes.proofs.Passes.{same-done}
use Rattle.lanes.specs.Alphas.{alphas_are}
use Rattle.lanes.proofs.opacity.Sums.{are}
use Rattle.plan.specs.Blend.{alpha_at, blend_at, duo, lane_at}
use Rattle.plan.proofs.Blends.{Bytes}
use Rattle.plan.proofs.channels.Channels.{duo-low, duo_high, copied, stayed, cleared}

-- lane k of the rows s and d from o on, blended
unfoldable pub two_at : BlendFactors → List ℕ → List ℕ → ℕ → ℕ → ℕ
two_at rule s d o k =
    duo
    (two s (o + k * 2)) (factor_value rule.source (two s (o + (k / 2 * 2 + 1) * 2) / 256) (two d (o + (k / 2 * 2 + 1) * 2) / 256))
    (two d (o + k * 2)) (factor_value rule.destination (two s (o + (k / 2 * 2 + 1) * 2) / 256) (two d (o + (k / 2 * 2 + 1) * 2) / 256))

module _ (s d a b : List ℕ) (o : ℕ) (is_b : (k : ℕ) → k < 8 → get_or b k 0 ≡ two d (o + k * 2)) where
  pub blend_two : (rule : BlendFactors) → ((k : ℕ) → k < 8 → get_or a k 0 ≡ two s (o + k * 2)) → (k : ℕ) → k < 8 → lane_at rule a b k ≡ two_at rule s d o k
  unfolding lane_at two_at
  blend_two rule is-a k l =
      let t : k / 2 * 2 + 1 < 8 = omega arith in
      cc (is-a k l, is_b k l, is-a (k / 2 * 2 + 1) t, is_b (k / 2 * 2 + 1) t)

-- the lanes blended and stored
module _ (rule : BlendFactors) (s d r e : List ℕ) (o : ℕ) (four : o % 4 ≡ 0) (in-s : Bytes s) (in-d : Bytes d)
    (is-r : (k : ℕ) → k < 8 → get_or r k 0 ≡ two_at rule s d o k)
    (low : (k : ℕ) → k < 8 → get_or e (o + k * 2) 0 ≡ get_or r k 0 % 256)
    (high : (k : ℕ) → k < 8 → get_or e (o + k * 2 + 1) 0 ≡ get_or r k 0 / 256)
    (under : (j : ℕ) → j < o → get_or e j 0 ≡ get_or d j 0) (past : (j : ℕ) → o + 16 ≤ j → get_or e j 0 ≡ get_or d j 0) where
  at_low : (k : ℕ) → k < 8 → get_or e (o + k * 2) 0 ≡ blend_at rule s d (o + k * 2)
  unfolding blend_at two_at
  at_low k l =
      let i : o + (k / 2 * 2 + 1) * 2 + 1 ≡ (o + k * 2) / 4 * 4 + 3 = omega arith in
      low k l ∙ (ap (λ (n : ℕ). n % 256) (is-r k l) ∙ (duo-low (two s (o + k * 2)) _ (two d (o + k * 2)) _
      ∙ cc (two_high s (o + (k / 2 * 2 + 1) * 2) in-s, two_high d (o + (k / 2 * 2 + 1) * 2) in-d, two-low s (o + k * 2) in-s, two-low d (o + k * 2) in-d)))

  at_high : (k : ℕ) → k < 8 → get_or e (o + k * 2 + 1) 0 ≡ blend_at rule s d (o + k * 2 + 1)
  unfolding blend_at two_at
  at_high k l =
      let i : o + (k / 2 * 2 + 1) * 2 + 1 ≡ (o + k * 2 + 1) / 4 * 4 + 3 = omega arith in
      high k l ∙ (ap (λ (n : ℕ). n / 256) (is-r k l) ∙ (duo_high (two s (o + k * 2)) _ (two d (o + k * 2)) _
      ∙ cc (two_high s (o + (k / 2 * 2 + 1) * 2) in-s, two_high d (o + (k / 2 * 2 + 1) * 2) in-d, two_high s (o + k * 2) in-s, two_high d (o + k * 2) in-d)))

  four-at : (j : ℕ) → o ≤ j → j < o + 16 → get_or e j 0 ≡ blend_at rule s d j
  four-at j h l =
      ⊎_elim
      (λ z. subst (λ (q : ℕ). get_or e q 0 ≡ blend_at rule s d q) (omega arith) (at_low ((j - o) / 2) (omega arith)))
      (λ z. subst (λ (q : ℕ). get_or e q 0 ≡ blend_at rule s d q) (omega arith) (at_high ((j - o) / 2) (omega arith)))
      (eq-zero-or-pos ((j - o) % 2))

  pub four-done : Done (blend_at rule s d) d e o (o + 16)
  four-done = record { done = four-at; under = under; past = past }

-- four alphas that are one number
pub alphas-at : (v : ℕ) (s : List ℕ) (o : ℕ) → o % 4 ≡ 0 → alphas_are v s o ≡ true → (j : ℕ) → o ≤ j → j < o + 16 → alpha_at s j ≡ v
alphas-at v s o four all j h l =
    let a = are v s o all in
    under_or j (o + 8)
    (λ p. under_or j (o + 4) (λ q. subst (λ (i : ℕ). get_or s i 0 ≡ v) (omega arith) a.first) (λ q. subst (λ (i : ℕ). get_or s i 0 ≡ v) (omega arith) a.second))
    (λ p. under_or j (o + 12) (λ q. subst (λ (i : ℕ). get_or s i 0 ≡ v) (omega arith) a.third) (λ q. subst (λ (i : ℕ). get_or s i 0 ≡ v) (omega arith) a.fourth))

-- ---- four pixels whose alphas are all 255, or all 0

module _ (rule : BlendFactors) (s d e : List ℕ) (o : ℕ) (four : o % 4 ≡ 0) (in-s : Bytes s) (in-d : Bytes d) where
  pub copy_done : ((y : ℕ) → (factor_value rule.source 255 y ≡ 255) × (factor_value rule.destination 255 y ≡ 0)) →
      alphas_are 255 s o ≡ true →
      Done (λ j. get_or s j 0) d e o (o + 16) → Done (blend_at rule s d) d e o (o + 16)
  unfolding blend_at
  copy_done full z did =
      same-done (λ j. get_or s j 0) (blend_at rule s d) d e o (o + 16)
      (λ j h l.
      let f = full (alpha_at d j) in
      sym (cc (alphas-at 255 s o four z j h l, f.0, f.1, copied (get_or s j 0) (get_or d j 0) (omega (arith, in-s j)))))
      did

  pub leave_done : ((y : ℕ) → (factor_value rule.source 0 y ≡ 0) × (factor_value rule.destination 0 y ≡ 255)) →
      alphas_are 0 s o ≡ true → Done (blend_at rule s d) d d o (o + 16)
  unfolding blend_at
  leave_done empty z = record {
    done = λ j h l.
        let f = empty (alpha_at d j) in
        sym (cc (alphas-at 0 s o four z j h l, f.0, f.1, stayed (get_or s j 0) (get_or d j 0) (omega (arith, in-d j))));
    under = λ j l. refl;
    past = λ j l. refl;
  }

  -- SRC_OVER without alpha
  pub clear-done : ((j : ℕ) → o ≤ j → j < o + 16 → get_or s j 0 ≡ 0) → Done (blend_at (blend_mode_factors SrcOver) s d) d d o (o + 16)
  unfolding blend_at
  clear-done z = record {
    done = λ j h l. sym (cc (z j h l, z (j / 4 * 4 + 3) (omega arith) (omega arith), cleared 255 (get_or d j 0) (omega (arith, in-d j))));
    under = λ j l. refl;
    past = λ j l. refl;
  }

  pub add_done : alphas_are 0 s o ≡ true →
      Done (blend_at (blend_mode_factors Add) s d) d e o (o + 16) → Done (blend_at (blend_mode_factors SrcOver) s d) d e o (o + 16)
  unfolding blend_at
  add_done z did =
      same-done (blend_at (blend_mode_factors Add) s d) (blend_at (blend_mode_factors SrcOver) s d) d e o (o + 16)
      (λ j h l. ap (λ (x : ℕ). blended_channel (get_or s j 0) 255 (get_or d j 0) (255 - x)) (sym (alphas-at 0 s o four z j h l)))
      did
