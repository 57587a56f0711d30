-- The colours of a buffer by its bytes: a pass over the bytes is a pass over the colours.
use mathlib.Core.Path.{◌≡◌, refl, sym, ap, ◌∙◌}
use mathlib.Core.Bool.{Bool, true, false, cond, false≢true}
use mathlib.Core.List.{List}
use Prim.Native.Nat.{ℕ, ◌+◌, ◌*◌, ◌/◌, ◌≤◌, ◌<◌}
use native.Mathlib.Omega.{arith}
use lib.ListN.{length, get_or}
use borrow.Author.Tests.{eqb-true}
use Rattle.pixel.specs.Alpha.{with_alpha}
use Rattle.pixel.specs.declared.blend.AlphaMode.{AlphaMode}
use Rattle.pixel.specs.declared.blend.AlphaMode.TheVariants.{Pixel, Global, Mixed}
use Rattle.pixel.specs.declared.blend.BlendFactors.{BlendFactors}
use Rattle.pixel.specs.declared.format.Format.TheVariants.{Argb8888}
use Rattle.register.specs.declared.task.Alpha.{Alpha}
use Rattle.register.specs.declared.task.Blending.{Blending}
use Rattle.row_pixels.specs.Row.{colour_in, row_stored}
use Rattle.row_pixels.specs.Composite.{composite}
use Rattle.lanes.specs.Lanes.{Done}
use Rattle.lanes.proofs.Laws.{both}
use Rattle.lanes.proofs.Passes.{to_end}
use Rattle.composite.specs.Mode.{mode_at}
use Rattle.composite.proofs.alpha_modes.Alphas.{at-alpha, at_other}
use Rattle.plan.specs.Blend.{blend_at}
use Rattle.plan.specs.declared.Plan.{Plan}
use Rattle.unpremultiply.specs.Unpremultiply.{unpremultiplied}
use Rattle.unpremultiply.specs.Prepared.{divided_at, prepared_at}
use Rattle.unpremultiply.proofs.Pixels.{at-alpha as alpha-kept, at-colour}
use Rattle.row_pixels.proofs.RowColours.Colours.{Row, colour-is, blend_colour, row_is}
use Rattle.composite.specs.Buffer.{HasItsAlphas, has_constant_alpha}

module _ (d e : List ℕ) (width : ℕ) (in-d : Row d) (in_e : Row e) (long-d : width * 4 ≤ length d) (long-e : width * 4 ≤ length e) where
  pub mode_colour : (mode : AlphaMode) (g : ℕ) → Done (mode_at mode g d) d e 0 (width * 4) → (x : ℕ) → x < width → colour_in e x ≡ with_alpha mode g (colour_in d x)
  mode_colour mode g did x l =
      let a = did.done (x * 4 + 3) (omega arith) (omega arith) ∙ at-alpha mode g d (x * 4 + 3) (omega arith) in
      let r = did.done (x * 4 + 2) (omega arith) (omega arith) ∙ at_other mode g d (x * 4 + 2) (omega arith) in
      let h = did.done (x * 4 + 1) (omega arith) (omega arith) ∙ at_other mode g d (x * 4 + 1) (omega arith) in
      let b = did.done (x * 4) (omega arith) (omega arith) ∙ at_other mode g d (x * 4) (omega arith) in
      colour-is e (x * 4) in_e (omega arith)
      ∙ ((rw (a, r, h, b)) ∙ ap (with_alpha mode g) (sym (colour-is d (x * 4) in-d (omega arith))))

  divided_colour : Done (divided_at d) d e 0 (width * 4) → (x : ℕ) → x < width → colour_in e x ≡ unpremultiplied (colour_in d x)
  divided_colour did x l =
      let a = did.done (x * 4 + 3) (omega arith) (omega arith) ∙ alpha-kept d (x * 4 + 3) (omega arith) in
      let r = did.done (x * 4 + 2) (omega arith) (omega arith) ∙ at-colour d (x * 4 + 2) (x * 4 + 3) (omega arith) (omega arith) in
      let h = did.done (x * 4 + 1) (omega arith) (omega arith) ∙ at-colour d (x * 4 + 1) (x * 4 + 3) (omega arith) (omega arith) in
      let b = did.done (x * 4) (omega arith) (omega arith) ∙ at-colour d (x * 4) (x * 4 + 3) (omega arith) (omega arith) in
      colour-is e (x * 4) in_e (omega arith)
      ∙ ((rw (a, r, h, b)) ∙ ap unpremultiplied (sym (colour-is d (x * 4) in-d (omega arith))))

  kept-colour : Done (λ j. get_or d j 0) d e 0 (width * 4) → (x : ℕ) → x < width → colour_in e x ≡ colour_in d x
  kept-colour did x l =
      let a = did.done (x * 4 + 3) (omega arith) (omega arith) in
      let r = did.done (x * 4 + 2) (omega arith) (omega arith) in
      let h = did.done (x * 4 + 1) (omega arith) (omega arith) in
      let b = did.done (x * 4) (omega arith) (omega arith) in
      colour-is e (x * 4) in_e (omega arith)
      ∙ ((rw (a, r, h, b)) ∙ sym (colour-is d (x * 4) in-d (omega arith)))

  pub prepared_colour : (b : Bool) → Done (prepared_at b d) d e 0 (width * 4) → (x : ℕ) → x < width → colour_in e x ≡ cond b (unpremultiplied (colour_in d x)) (colour_in d x)
  unfolding prepared_at
  prepared_colour true = divided_colour
  prepared_colour false = kept-colour

-- ---- a source of one alpha

pub constant_factors : (mode : AlphaMode) (p : Plan) → has_constant_alpha mode p ≡ true → (p.source.destination ≡ 0) × (p.destination.destination ≡ 0)
constant_factors Pixel p h = absurd (false≢true h)
constant_factors Global p h =
    let b = both _ _ (both _ _ (both _ _ h).0).0 in
    (eqb-true p.source.destination 0 b.0, eqb-true p.destination.destination 0 b.1)
constant_factors Mixed p h = absurd (false≢true h)

pub is_global : (mode : AlphaMode) (p : Plan) → has_constant_alpha mode p ≡ true → mode ≡ Global
is_global Pixel p h = absurd (false≢true h)
is_global Global p h = refl
is_global Mixed p h = absurd (false≢true h)

-- after the pass that sets its alphas
pub global_alphas : (alpha : Alpha) (t s : List ℕ) (width : ℕ) → Done (mode_at alpha.mode alpha.global t) t s 0 (width * 4) → HasItsAlphas alpha s (width * 4)
global_alphas alpha t s width did is j l =
    did.done (j / 4 * 4 + 3) (omega arith) (omega arith) ∙ (at-alpha alpha.mode alpha.global t (j / 4 * 4 + 3) (omega arith) ∙ rw (is))

-- the passes of a row: a premultiplied source divided, alpha modes on both rows, then the rule
pub mix_is : (blending : Blending) (source destination : Alpha) (rule : BlendFactors) (s t s' d d' e : List ℕ) (width : ℕ) → Row s → Row t → Row s' → Row d → Row d' → Row e →
    Done (prepared_at blending.premultiplied s) s t 0 (width * 4) →
    width * 4 ≤ length s → length t ≡ length s → length s' ≡ length t → length d ≡ width * 4 → length d' ≡ length d → length e ≡ length d → rule ≡ blending.rule →
    Done (mode_at source.mode source.global t) t s' 0 (width * 4) → Done (mode_at destination.mode destination.global d) d d' 0 (width * 4) →
    Done (blend_at rule s' d') d' e 0 (length d') →
    e ≡ row_stored Argb8888 (λ x. composite blending source destination (colour_in s x) (colour_in d x)) d
unfolding composite
mix_is blending source destination rule s t s' d d' e width in-s in-t in-s' in-d in-d' in_e on-t ls lt ls' ld ld' le is-rule on-s on-d did =
    row_is d e width in-d in_e (omega arith) (omega arith) _ le ld
    (λ x l.
    blend_colour d' e width in-d' in_e (omega arith) (omega arith) rule s' in-s' (omega arith)
    (to_end (blend_at rule s' d') d' e 0 (length d') (width * 4) (omega arith) did) x l
    ∙ rw (is-rule, mode_colour t s' width in-t in-s' (omega arith) (omega arith) source.mode source.global on-s x l, prepared_colour s t width in-s in-t (omega arith) (omega arith) blending.premultiplied on-t x l, mode_colour d d' width in-d in-d' (omega arith) (omega arith) destination.mode destination.global on-d x l))
