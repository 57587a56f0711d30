-- A factor by its masks is the factor; what a plan says of its rule.
use mathlib.Core.Path.{◌≡◌, refl, sym, ap, ◌∙◌}
use mathlib.Core.Bool.{true, false≢true}
use Prim.Native.Nat.{ℕ, ◌-◌, ◌≤◌}
use native.Mathlib.Omega.{arith}
use native.Mathlib.Nat.{mod-eq_of_lt}
use lib.Bits.{bit_and, bit_xor, and_zero_r, xor_zero_r, and_mask, xor_add_and}
use Rattle.pixel.specs.Blending.{factor_value}
use Rattle.pixel.specs.declared.blend.Factor.{Factor}
use Rattle.pixel.specs.declared.blend.Factor.TheVariants.{Zero, One, SourceAlpha, InverseSourceAlpha, DestinationAlpha, InverseDestinationAlpha}
use borrow.Author.Tests.{eqb-true}
use Rattle.pixel.specs.Rules.{blend_mode_factors}
use Rattle.pixel.specs.declared.blend.BlendFactors.{BlendFactors}
use Rattle.pixel.specs.declared.blend.BlendMode.TheVariants.{SrcOver}
use Rattle.lanes.proofs.Laws.{both}
use Rattle.plan.specs.declared.Masks.{Masks}
use Rattle.plan.specs.declared.Plan.{Plan}
use Rattle.plan.specs.Plan.{masks_of, factor_by, is_at, ends, is_constant}

and_byte : (x : ℕ) → x ≤ 255 → bit_and x 255 ≡ x
and_byte x h = and_mask x 8 ∙ mod-eq_of_lt (omega arith)

xor_byte : (x : ℕ) → x ≤ 255 → bit_xor x 255 ≡ 255 - x
xor_byte x h = omega (arith, xor_add_and x 255, and_byte x h)

-- the two masked alphas, of which one is nothing
pub factor-is : (f : Factor) (x y : ℕ) → x ≤ 255 → y ≤ 255 → factor_by (masks_of f) x y ≡ factor_value f x y
unfolding factor_by
factor-is Zero x y h k = rw (and_zero_r x, and_zero_r y)
factor-is One x y h k = rw (and_zero_r x, and_zero_r y)
factor-is SourceAlpha x y h k = rw (and_byte x h, and_zero_r y, xor_zero_r x, xor_zero_r x)
factor-is InverseSourceAlpha x y h k = rw (and_byte x h, and_zero_r y, xor_zero_r x, xor_byte x h)
factor-is DestinationAlpha x y h k = rw (and_zero_r x, and_byte y k, xor_zero_r y)
factor-is InverseDestinationAlpha x y h k = rw (and_zero_r x, and_byte y k, xor_byte y k)

pub factor-small : (f : Factor) (x y : ℕ) → x ≤ 255 → y ≤ 255 → factor_value f x y ≤ 255
factor-small Zero x y h k = omega arith
factor-small One x y h k = omega arith
factor-small SourceAlpha x y h k = h
factor-small InverseSourceAlpha x y h k = omega arith
factor-small DestinationAlpha x y h k = k
factor-small InverseDestinationAlpha x y h k = omega arith

-- where the source alpha is x
pub is_at-value : (f : Factor) (x v y : ℕ) → is_at f x v ≡ true → factor_value f x y ≡ v
is_at-value Zero x v y e = eqb-true 0 v e
is_at-value One x v y e = eqb-true 255 v e
is_at-value SourceAlpha x v y e = eqb-true x v e
is_at-value InverseSourceAlpha x v y e = eqb-true (255 - x) v e
is_at-value DestinationAlpha x v y e = absurd (false≢true e)
is_at-value InverseDestinationAlpha x v y e = absurd (false≢true e)

pub one-is : (f : Factor) → ends f 255 255 ≡ true → f ≡ One
one-is Zero e = absurd (false≢true e)
one-is One e = refl
one-is SourceAlpha e = absurd (false≢true e)
one-is InverseSourceAlpha e = absurd (false≢true e)
one-is DestinationAlpha e = absurd (false≢true e)
one-is InverseDestinationAlpha e = absurd (false≢true e)

pub inverse-is : (f : Factor) → ends f 0 255 ≡ true → f ≡ InverseSourceAlpha
inverse-is Zero e = absurd (false≢true e)
inverse-is One e = absurd (false≢true e)
inverse-is SourceAlpha e = absurd (false≢true e)
inverse-is InverseSourceAlpha e = refl
inverse-is DestinationAlpha e = absurd (false≢true e)
inverse-is InverseDestinationAlpha e = absurd (false≢true e)

-- a factor that does not go by alpha
pub whole : (f : Factor) (x y : ℕ) → is_constant f ≡ true → (masks_of f).flip ≡ 255 → factor_value f x y ≡ 255
whole Zero x y c e = absurd (omega arith)
whole One x y c e = refl
whole SourceAlpha x y c e = absurd (false≢true c)
whole InverseSourceAlpha x y c e = absurd (false≢true c)
whole DestinationAlpha x y c e = absurd (false≢true c)
whole InverseDestinationAlpha x y c e = absurd (false≢true c)

pub nothing : (f : Factor) (x y : ℕ) → is_constant f ≡ true → ((masks_of f).flip ≡ 255 → ⊥) → factor_value f x y ≡ 0
nothing Zero x y c n = refl
nothing One x y c n = absurd (n refl)
nothing SourceAlpha x y c n = absurd (false≢true c)
nothing InverseSourceAlpha x y c n = absurd (false≢true c)
nothing DestinationAlpha x y c n = absurd (false≢true c)
nothing InverseDestinationAlpha x y c n = absurd (false≢true c)

-- a factor that does not go by the destination's alpha
apart : (f : Factor) (x y z : ℕ) → (masks_of f).destination ≡ 0 → factor_value f x y ≡ factor_value f x z
apart Zero x y z e = refl
apart One x y z e = refl
apart SourceAlpha x y z e = refl
apart InverseSourceAlpha x y z e = refl
apart DestinationAlpha x y z e = absurd (omega arith)
apart InverseDestinationAlpha x y z e = absurd (omega arith)

-- ---- a plan

rule-is : (r : BlendFactors) (s d : Factor) → r.source ≡ s → r.destination ≡ d → r ≡ record { source = s; destination = d }
rule-is r s d h k = ap (λ (f : Factor). record { source = f; destination = r.destination }) h ∙ ap (λ (f : Factor). record { source = s; destination = f }) k

module _ (p : Plan) where
  pub source_is : (x y : ℕ) → x ≤ 255 → y ≤ 255 → factor_by p.source x y ≡ factor_value p.rule.source x y
  source_is x y h k = ap (λ (m : Masks). factor_by m x y) p.source_masks ∙ factor-is p.rule.source x y h k

  pub destination-is : (x y : ℕ) → x ≤ 255 → y ≤ 255 → factor_by p.destination x y ≡ factor_value p.rule.destination x y
  destination-is x y h k = ap (λ (m : Masks). factor_by m x y) p.destination_masks ∙ factor-is p.rule.destination x y h k

  pub over-is : p.over ≡ true → p.rule ≡ blend_mode_factors SrcOver
  over-is e =
      let b = both _ _ (sym p.over_is ∙ e) in
      rule-is p.rule _ _ (one-is p.rule.source b.0) (inverse-is p.rule.destination b.1)

  constant_are : p.constant ≡ true → (is_constant p.rule.source ≡ true) × (is_constant p.rule.destination ≡ true)
  constant_are e = both _ _ (sym p.constant_is ∙ e)

  source-flip : p.source.flip ≡ (masks_of p.rule.source).flip
  source-flip = ap (λ (m : Masks). m.flip) p.source_masks

  destination-flip : p.destination.flip ≡ (masks_of p.rule.destination).flip
  destination-flip = ap (λ (m : Masks). m.flip) p.destination_masks

  pub source-whole : p.constant ≡ true → p.source.flip ≡ 255 → (x y : ℕ) → factor_value p.rule.source x y ≡ 255
  source-whole k e x y = whole p.rule.source x y (constant_are k).0 (sym source-flip ∙ e)

  pub source-nothing : p.constant ≡ true → (p.source.flip ≡ 255 → ⊥) → (x y : ℕ) → factor_value p.rule.source x y ≡ 0
  source-nothing k n x y = nothing p.rule.source x y (constant_are k).0 (λ e. n (source-flip ∙ e))

  pub destination-whole : p.constant ≡ true → p.destination.flip ≡ 255 → (x y : ℕ) → factor_value p.rule.destination x y ≡ 255
  destination-whole k e x y = whole p.rule.destination x y (constant_are k).1 (sym destination-flip ∙ e)

  pub destination-nothing : p.constant ≡ true → (p.destination.flip ≡ 255 → ⊥) → (x y : ℕ) → factor_value p.rule.destination x y ≡ 0
  destination-nothing k n x y = nothing p.rule.destination x y (constant_are k).1 (λ e. n (destination-flip ∙ e))

  pub source-apart : p.source.destination ≡ 0 → (x y z : ℕ) → factor_value p.rule.source x y ≡ factor_value p.rule.source x z
  source-apart e x y z = apart p.rule.source x y z (sym (ap (λ (m : Masks). m.destination) p.source_masks) ∙ e)

  pub destination-apart : p.destination.destination ≡ 0 → (x y z : ℕ) → factor_value p.rule.destination x y ≡ factor_value p.rule.destination x z
  destination-apart e x y z = apart p.rule.destination x y z (sym (ap (λ (m : Masks). m.destination) p.destination_masks) ∙ e)

  pub copies_is : p.copies ≡ true → (y : ℕ) → (factor_value p.rule.source 255 y ≡ 255) × (factor_value p.rule.destination 255 y ≡ 0)
  copies_is e y =
      let b = both _ _ (sym p.copies_is ∙ e) in
      (is_at-value p.rule.source 255 255 y b.0, is_at-value p.rule.destination 255 0 y b.1)

  pub leaves-is : p.leaves ≡ true → (y : ℕ) → (factor_value p.rule.source 0 y ≡ 0) × (factor_value p.rule.destination 0 y ≡ 255)
  leaves-is e y =
      let b = both _ _ (sym p.leaves_is ∙ e) in
      (is_at-value p.rule.source 0 0 y b.0, is_at-value p.rule.destination 0 255 y b.1)

  pub source-small : (x y : ℕ) → x ≤ 255 → y ≤ 255 → factor_by p.source x y ≤ 255
  source-small x y h k = rw (source_is x y h k) (factor-small p.rule.source x y h k)

  pub destination-small : (x y : ℕ) → x ≤ 255 → y ≤ 255 → factor_by p.destination x y ≤ 255
  destination-small x y h k = rw (destination-is x y h k) (factor-small p.rule.destination x y h k)
