-- Rows whose factors are the same all along: they do not go by alpha, or the source has one alpha.
use mathlib.Core.Path.{◌≡◌, refl, sym, ◌∙◌}
use mathlib.Core.Bool.{true, ◌&&◌}
use mathlib.Core.List.{List}
use Prim.Native.Nat.{ℕ, ◌<◌}
use native.Mathlib.Omega.{arith}
use lib.ListN.{get_or}
use lib.Dec.{eqb}
use borrow.Author.Tests.{eqb-true}
use Rattle.pixel.specs.Blending.{factor_value, blended_channel}
use Rattle.pixel.specs.Rules.{blend_mode_factors}
use Rattle.pixel.specs.declared.blend.BlendFactors.{BlendFactors}
use Rattle.pixel.specs.declared.blend.BlendMode.TheVariants.{Add}
use Rattle.lanes.specs.Lanes.{Done}
use Rattle.lanes.proofs.Laws.{both}
use Rattle.lanes.proofs.Passes.{same-done}
use Rattle.plan.specs.Blend.{alpha_at, blend_at}
use Rattle.plan.proofs.channels.Channels.{copied, stayed, emptied}
use Rattle.plan.proofs.Blends.{Bytes}

module _ (rule : BlendFactors) (s d e : List ℕ) (n : ℕ) where
  -- a pass that makes each byte what the two factors make of it
  by_factors : (fs fd : ℕ) (P : ℕ → ℕ) → ((x y : ℕ) → factor_value rule.source x y ≡ fs) → ((x y : ℕ) → factor_value rule.destination x y ≡ fd) →
      ((j : ℕ) → P j ≡ blended_channel (get_or s j 0) fs (get_or d j 0) fd) → Done P d e 0 n → Done (blend_at rule s d) d e 0 n
  unfolding blend_at
  by_factors fs fd P is-s is-d same did =
      same-done P (blend_at rule s d) d e 0 n (λ j h l. same j ∙ sym (rw (is-s (alpha_at s j) (alpha_at d j), is-d (alpha_at s j) (alpha_at d j)))) did

  pub added-row : ((x y : ℕ) → factor_value rule.source x y ≡ 255) → ((x y : ℕ) → factor_value rule.destination x y ≡ 255) →
      Done (blend_at (blend_mode_factors Add) s d) d e 0 n → Done (blend_at rule s d) d e 0 n
  unfolding blend_at
  added-row is-s is-d did = by_factors 255 255 (blend_at (blend_mode_factors Add) s d) is-s is-d (λ j. refl) did

  pub copied-row : Bytes s → ((x y : ℕ) → factor_value rule.source x y ≡ 255) → ((x y : ℕ) → factor_value rule.destination x y ≡ 0) →
      Done (λ j. get_or s j 0) d e 0 n → Done (blend_at rule s d) d e 0 n
  copied-row in-s is-s is-d did = by_factors 255 0 (λ j. get_or s j 0) is-s is-d (λ j. sym (copied (get_or s j 0) (get_or d j 0) (omega (arith, in-s j)))) did

  pub cleared_row : ((x y : ℕ) → factor_value rule.source x y ≡ 0) → ((x y : ℕ) → factor_value rule.destination x y ≡ 0) →
      Done (λ j. 0) d e 0 n → Done (blend_at rule s d) d e 0 n
  cleared_row is-s is-d did = by_factors 0 0 (λ j. 0) is-s is-d (λ j. sym (emptied (get_or s j 0) (get_or d j 0))) did

-- a row of one alpha, under a rule that does not go by the alphas of the other row
pub constant_alpha-row : (rule : BlendFactors) (s d e : List ℕ) (n a fs fd : ℕ) → ((j : ℕ) → j < n → alpha_at s j ≡ a) →
    ((y : ℕ) → factor_value rule.source a y ≡ fs) → ((y : ℕ) → factor_value rule.destination a y ≡ fd) →
    Done (λ j. blended_channel (get_or s j 0) fs (get_or d j 0) fd) d e 0 n → Done (blend_at rule s d) d e 0 n
unfolding blend_at
constant_alpha-row rule s d e n a fs fd alphas is-s is-d did =
    same-done _ (blend_at rule s d) d e 0 n (λ j h l. sym (rw (alphas j l, is-s (alpha_at d j), is-d (alpha_at d j)))) did

pub left-row : (rule : BlendFactors) (s d : List ℕ) (n : ℕ) → Bytes d → ((x y : ℕ) → factor_value rule.source x y ≡ 0) → ((x y : ℕ) → factor_value rule.destination x y ≡ 255) →
    Done (blend_at rule s d) d d 0 n
left-row rule s d n in-d is-s is-d =
    by_factors rule s d d n 0 255 (λ j. get_or d j 0) is-s is-d (λ j. sym (stayed (get_or s j 0) (get_or d j 0) (omega (arith, in-d j))))
    (record { done = λ j h l. refl; under = λ j l. refl; past = λ j l. refl })

-- factors that only copy, and factors that only leave
module _ (s d : List ℕ) (n fs fd : ℕ) where
  -- what they make of byte j
  abbrev mixed : ℕ → ℕ
  mixed j = blended_channel (get_or s j 0) fs (get_or d j 0) fd

  pub copied_by : (e : List ℕ) → Bytes s → eqb fs 255 && eqb fd 0 ≡ true → Done (λ j. get_or s j 0) d e 0 n → Done mixed d e 0 n
  copied_by e in-s test did =
      let h = both (eqb fs 255) (eqb fd 0) test in
      same-done _ mixed d e 0 n (λ j above l. sym (rw (eqb-true fs 255 h.0, eqb-true fd 0 h.1) (copied (get_or s j 0) (get_or d j 0) (omega (arith, in-s j))))) did

  pub left_by : Bytes d → eqb fs 0 && eqb fd 255 ≡ true → Done mixed d d 0 n
  left_by in-d test =
      let h = both (eqb fs 0) (eqb fd 255) test in
      record {
        done = λ j above l. sym (rw (eqb-true fs 0 h.0, eqb-true fd 255 h.1) (stayed (get_or s j 0) (get_or d j 0) (omega (arith, in-d j))));
        under = λ j l. refl;
        past = λ j l. refl;
      }
