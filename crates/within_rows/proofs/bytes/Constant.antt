-- Rows inside one memory whose factors do not go by alpha.
use mathlib.Core.Path.{◌≡◌, refl, sym, ap, ◌∙◌}
use mathlib.Core.List.{List}
use Prim.Native.Nat.{ℕ, ◌+◌, ◌-◌}
use native.Mathlib.Omega.{arith}
use lib.ListN.{get_or, drop}
use lib.Seq.{get_or-drop}
use Rattle.pixel.specs.Blending.{factor_value}
use Rattle.pixel.specs.Rules.{blend_mode_factors}
use Rattle.pixel.specs.declared.blend.BlendFactors.{BlendFactors}
use Rattle.pixel.specs.declared.blend.BlendMode.TheVariants.{Add}
use Rattle.lanes.specs.Lanes.{Done}
use Rattle.lanes.proofs.Passes.{same-done}
use Rattle.lanes.specs.Apart.{moved_byte}
use Rattle.plan.proofs.Blends.{Bytes}
use Rattle.combine.proofs.constant.Rows.{added-row, copied-row, cleared_row, left-row}
use Rattle.within_rows.specs.Within.{blend_within}
use Rattle.within_rows.proofs.Rows.{in_drop}
use Rattle.within_rows.proofs.bytes.Within.{row, within-whole, within-row}

-- a factor that has this value whatever the alphas are
abbrev Always : (ℕ → ℕ → ℕ) → ℕ → Type 0
Always f v = (x y : ℕ) → f x y ≡ v

module _ (rule : BlendFactors) (m m' : List ℕ) (to from n : ℕ) where
  pub added-within : Always (factor_value rule.source) 255 → Always (factor_value rule.destination) 255 →
      Done (blend_within (blend_mode_factors Add) m to from) m m' to (to + n) → Done (blend_within rule m to from) m m' to (to + n)
  added-within is-s is-d did =
      within-whole rule m m' to from n did.under
      (added-row rule (drop from m) (drop to m) (drop to m') n is-s is-d (within-row (blend_mode_factors Add) m m' to from n did))

  pub copied-within : Bytes m → Always (factor_value rule.source) 255 → Always (factor_value rule.destination) 0 →
      Done (moved_byte m to from) m m' to (to + n) → Done (blend_within rule m to from) m m' to (to + n)
  copied-within in-m is-s is-d did =
      within-whole rule m m' to from n did.under
      (copied-row rule (drop from m) (drop to m) (drop to m') n (in_drop m from in-m) is-s is-d
      (same-done (λ (j : ℕ). moved_byte m to from (to + j)) (λ (j : ℕ). get_or (drop from m) j 0) (drop to m) (drop to m') 0 n
      (λ j l u. let e : from + (to + j - to) ≡ from + j = omega arith in ap (λ (q : ℕ). get_or m q 0) e ∙ sym (get_or-drop from m j 0))
      (row m m' to n (moved_byte m to from) did)))

  pub cleared_within : Always (factor_value rule.source) 0 → Always (factor_value rule.destination) 0 →
      Done (λ j. 0) m m' to (to + n) → Done (blend_within rule m to from) m m' to (to + n)
  cleared_within is-s is-d did =
      within-whole rule m m' to from n did.under (cleared_row rule (drop from m) (drop to m) (drop to m') n is-s is-d (row m m' to n (λ j. 0) did))

pub left-within : (rule : BlendFactors) (m : List ℕ) (to from n : ℕ) → Bytes m → Always (factor_value rule.source) 0 → Always (factor_value rule.destination) 255 →
    Done (blend_within rule m to from) m m to (to + n)
left-within rule m to from n in-m is-s is-d =
    within-whole rule m m to from n (λ j l. refl) (left-row rule (drop from m) (drop to m) n (in_drop m to in-m) is-s is-d)
