-- Four pixels inside one slice. Seen from where a row begins (`drop`), they are those of crate combine.
use mathlib.Core.Path.{◌≡◌, refl, sym, ap, ◌∙◌}
use mathlib.Core.Bool.{true}
use mathlib.Core.List.{List}
use Prim.Native.Nat.{ℕ, ◌+◌, ◌-◌, ◌*◌, ◌/◌, ◌%◌, ◌≤◌, ◌<◌}
use native.Mathlib.Omega.{arith}
use lib.ListN.{get_or, drop}
use lib.Seq.{get_or-drop}
use Rattle.pixel.specs.Blending.{factor_value}
use Rattle.pixel.specs.Rules.{blend_mode_factors}
use Rattle.pixel.specs.declared.blend.BlendFactors.{BlendFactors}
use Rattle.pixel.specs.declared.blend.BlendMode.TheVariants.{SrcOver, Add}
use Rattle.lanes.specs.Lanes.{two, Done}
use Rattle.lanes.proofs.Passes.{same-done}
use Rattle.lanes.specs.Alphas.{alphas_are}
use Rattle.plan.specs.Blend.{lane_at}
use Rattle.plan.proofs.Blends.{Bytes}
use Rattle.combine.proofs.Fours.{blend_two, four-done, copy_done, clear-done, add_done}
use Rattle.lanes.specs.Apart.{moved_byte}
use Rattle.within_rows.specs.Within.{blend_within}
use Rattle.within_rows.proofs.Rows.{in_drop}
use Rattle.within_rows.proofs.bytes.Within.{row, within-whole, within-row}

two-drop : (m : List ℕ) (a k : ℕ) → two m (a + k * 2) ≡ two (drop a m) (0 + k * 2)
unfolding two
two-drop m a k =
    let e : a + (0 + k * 2) ≡ a + k * 2 = omega arith in
    let f : a + (0 + k * 2 + 1) ≡ a + k * 2 + 1 = omega arith in
    sym (rw (get_or-drop a m (0 + k * 2) 0, get_or-drop a m (0 + k * 2 + 1) 0, e, f))

alphas-drop : (v : ℕ) (m : List ℕ) (a : ℕ) → alphas_are v (drop a m) 0 ≡ alphas_are v m a
unfolding alphas_are
alphas-drop v m a = rw (get_or-drop a m 3 0, get_or-drop a m 7 0, get_or-drop a m 11 0, get_or-drop a m 15 0)

-- stored from eight words
module _ (m r m' : List ℕ) (to from : ℕ) (in-m : Bytes m)
    (low : (k : ℕ) → k < 8 → get_or m' (to + k * 2) 0 ≡ get_or r k 0 % 256)
    (high : (k : ℕ) → k < 8 → get_or m' (to + k * 2 + 1) 0 ≡ get_or r k 0 / 256)
    (under : (j : ℕ) → j < to → get_or m' j 0 ≡ get_or m j 0) (past : (j : ℕ) → to + 16 ≤ j → get_or m' j 0 ≡ get_or m j 0) where
  row_low : (k : ℕ) → k < 8 → get_or (drop to m') (0 + k * 2) 0 ≡ get_or r k 0 % 256
  row_low k l = let e : to + (0 + k * 2) ≡ to + k * 2 = omega arith in get_or-drop to m' (0 + k * 2) 0 ∙ (ap (λ (q : ℕ). get_or m' q 0) e ∙ low k l)

  row_high : (k : ℕ) → k < 8 → get_or (drop to m') (0 + k * 2 + 1) 0 ≡ get_or r k 0 / 256
  row_high k l = let e : to + (0 + k * 2 + 1) ≡ to + k * 2 + 1 = omega arith in get_or-drop to m' (0 + k * 2 + 1) 0 ∙ (ap (λ (q : ℕ). get_or m' q 0) e ∙ high k l)

  row-past : (j : ℕ) → 0 + 16 ≤ j → get_or (drop to m') j 0 ≡ get_or (drop to m) j 0
  row-past j l = get_or-drop to m' j 0 ∙ (past (to + j) (omega arith) ∙ sym (get_or-drop to m j 0))

  -- the words of both rows blended
  pub four-blended : (rule : BlendFactors) (a b : List ℕ) → ((k : ℕ) → k < 8 → get_or a k 0 ≡ two m (from + k * 2)) → ((k : ℕ) → k < 8 → get_or b k 0 ≡ two m (to + k * 2)) →
      ((k : ℕ) → k < 8 → get_or r k 0 ≡ lane_at rule a b k) → Done (blend_within rule m to from) m m' to (to + 16)
  four-blended rule a b is-a is_b is-r =
      within-whole rule m m' to from 16 under
      (four-done rule (drop from m) (drop to m) r (drop to m') 0 refl (in_drop m from in-m) (in_drop m to in-m)
      (λ k l. is-r k l ∙ blend_two (drop from m) (drop to m) a b 0 (λ q h. is_b q h ∙ two-drop m to q) rule (λ q h. is-a q h ∙ two-drop m from q) k l)
      row_low row_high (λ j l. absurd (omega arith)) row-past)

-- whose alphas are all 255, or all 0
module _ (rule : BlendFactors) (m m' : List ℕ) (to from : ℕ) (in-m : Bytes m) where
  pub opaque-within : ((y : ℕ) → (factor_value rule.source 255 y ≡ 255) × (factor_value rule.destination 255 y ≡ 0)) →
      alphas_are 255 m from ≡ true →
      Done (moved_byte m to from) m m' to (to + 16) → Done (blend_within rule m to from) m m' to (to + 16)
  opaque-within full z did =
      within-whole rule m m' to from 16 did.under
      (copy_done rule (drop from m) (drop to m) (drop to m') 0 refl (in_drop m from in-m) (in_drop m to in-m) full (alphas-drop 255 m from ∙ z)
      (same-done (λ (j : ℕ). moved_byte m to from (to + j)) (λ (j : ℕ). get_or (drop from m) j 0) (drop to m) (drop to m') 0 16
      (λ j l u. let e : from + (to + j - to) ≡ from + j = omega arith in ap (λ (q : ℕ). get_or m q 0) e ∙ sym (get_or-drop from m j 0))
      (row m m' to 16 (moved_byte m to from) did)))

  -- SRC_OVER without alpha
  pub clear_within : ((j : ℕ) → from ≤ j → j < from + 16 → get_or m j 0 ≡ 0) → Done (blend_within (blend_mode_factors SrcOver) m to from) m m to (to + 16)
  clear_within z =
      within-whole (blend_mode_factors SrcOver) m m to from 16 (λ j l. refl)
      (clear-done rule (drop from m) (drop to m) (drop to m) 0 refl (in_drop m from in-m) (in_drop m to in-m)
      (λ j h l. get_or-drop from m j 0 ∙ z (from + j) (omega arith) (omega arith)))

  pub add_within : alphas_are 0 m from ≡ true →
      Done (blend_within (blend_mode_factors Add) m to from) m m' to (to + 16) → Done (blend_within (blend_mode_factors SrcOver) m to from) m m' to (to + 16)
  add_within z did =
      within-whole (blend_mode_factors SrcOver) m m' to from 16 did.under
      (add_done rule (drop from m) (drop to m) (drop to m') 0 refl (in_drop m from in-m) (in_drop m to in-m) (alphas-drop 0 m from ∙ z)
      (within-row (blend_mode_factors Add) m m' to from 16 did))
