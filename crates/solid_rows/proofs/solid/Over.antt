-- One colour over a row: words of two channels, four pixels, colours.
use mathlib.Core.Path.{◌≡◌, ap, ◌∙◌, subst}
use mathlib.Core.Logic.{⊎_elim}
use mathlib.Core.List.{List}
use Prim.Native.Nat.{ℕ, ◌+◌, ◌-◌, ◌*◌, ◌/◌, ◌%◌, ◌≤◌, ◌<◌}
use native.Mathlib.Omega.{arith}
use native.Mathlib.Nat.{eq-zero-or-pos}
use lib.ListN.{length, get_or}
use Rattle.pixel.specs.Blending.{blended_channel, blended}
use Rattle.pixel.specs.Rules.{blend_mode_factors}
use Rattle.pixel.specs.declared.colour.Colour.{Colour}
use Rattle.pixel.specs.declared.blend.AlphaMode.TheVariants.{Pixel}
use Rattle.pixel.specs.declared.blend.BlendMode.TheVariants.{SrcOver}
use Rattle.pixel.specs.declared.format.Format.TheVariants.{Argb8888}
use Rattle.register.specs.declared.task.Alpha.{Alpha}
use Rattle.register.specs.declared.task.Blending.{Blending}
use Rattle.row_pixels.specs.Row.{colour_in, row_stored}
use Rattle.row_pixels.specs.Composite.{source_for_blending, with_surface_alpha, composite}
use Rattle.lanes.specs.Lanes.{two, Done}
use Rattle.lanes.proofs.Passes.{Ahead, more-done}
use Rattle.plan.specs.Blend.{duo}
use Rattle.plan.proofs.channels.Channels.{duo-low, duo_high}
use Rattle.lanes.proofs.Laws.{two-low, two_high}
use Rattle.row_pixels.proofs.RowColours.Colours.{Row, colour-is, row_is}
use Rattle.solid_rows.specs.declared.colour.Solid.{Solid}
use Rattle.solid_rows.specs.Solid.{half_of}
use Rattle.solid_rows.specs.Over.{channel_at, over_at}

-- ---- a word of two channels, at an even place

module _ (s : Solid) (o : ℕ) where
  first-low : o % 4 ≡ 0 → (65535 - half_of s (o / 2)) % 256 ≡ channel_at s.colour o
  first-low e = let k : o / 2 % 2 ≡ 0 = omega arith in rw (k, e) (omega (arith, s.low_is, s.blue_fits, s.green_fits))

  first_high : o % 4 ≡ 0 → (65535 - half_of s (o / 2)) / 256 ≡ channel_at s.colour (o + 1)
  first_high e =
      let k : o / 2 % 2 ≡ 0 = omega arith in
      let i : (o + 1) % 4 ≡ 1 = omega arith in
      rw (k, i) (omega (arith, s.low_is, s.blue_fits, s.green_fits))

  second-low : o % 4 ≡ 2 → (65535 - half_of s (o / 2)) % 256 ≡ channel_at s.colour o
  second-low e = let k : o / 2 % 2 ≡ 1 = omega arith in rw (k, e) (omega (arith, s.high_is, s.red_fits, s.alpha_fits))

  second_high : o % 4 ≡ 2 → (65535 - half_of s (o / 2)) / 256 ≡ channel_at s.colour (o + 1)
  second_high e =
      let k : o / 2 % 2 ≡ 1 = omega arith in
      let i : (o + 1) % 4 ≡ 3 = omega arith in
      rw (k, i) (omega (arith, s.high_is, s.red_fits, s.alpha_fits))

  word_low : o % 2 ≡ 0 → (65535 - half_of s (o / 2)) % 256 ≡ channel_at s.colour o
  word_low e = ⊎_elim (λ z. first-low z) (λ p. second-low (omega arith)) (eq-zero-or-pos (o % 4))

  word_high : o % 2 ≡ 0 → (65535 - half_of s (o / 2)) / 256 ≡ channel_at s.colour (o + 1)
  word_high e = ⊎_elim (λ z. first_high z) (λ p. second_high (omega arith)) (eq-zero-or-pos (o % 4))

-- the word at o of a row with the colour over it
unfoldable pub word_over : Solid → List ℕ → ℕ → ℕ
word_over s d o = duo (65535 - half_of s (o / 2)) 255 (two d o) s.rest

module _ (s : Solid) (d : List ℕ) (in-d : Row d) (o : ℕ) (even : o % 2 ≡ 0) where
  pub at_low : word_over s d o % 256 ≡ over_at s.colour d o
  unfolding word_over over_at
  at_low =
      let u : (65535 - half_of s (o / 2)) % 256 ≡ channel_at s.colour o = word_low s o even in
      let v : two d o % 256 ≡ get_or d o 0 = two-low d o in-d in
      let w : s.rest ≡ 255 - s.colour.alpha = s.rest_is in
      duo-low (65535 - half_of s (o / 2)) 255 (two d o) s.rest ∙ cc

  pub at_high : word_over s d o / 256 ≡ over_at s.colour d (o + 1)
  unfolding word_over over_at
  at_high =
      let u : (65535 - half_of s (o / 2)) / 256 ≡ channel_at s.colour (o + 1) = word_high s o even in
      let v : two d o / 256 ≡ get_or d (o + 1) 0 = two_high d o in-d in
      let w : s.rest ≡ 255 - s.colour.alpha = s.rest_is in
      duo_high (65535 - half_of s (o / 2)) 255 (two d o) s.rest ∙ cc

-- a pass of words: word by word its bytes are those of the row with the colour over it
module _ (s : Solid) (d e : List ℕ) (in-d : Row d) (o n : ℕ) (even : o % 2 ≡ 0)
    (low : (k : ℕ) → k < n → get_or e (o + k * 2) 0 ≡ word_over s d (o + k * 2) % 256)
    (high : (k : ℕ) → k < n → get_or e (o + k * 2 + 1) 0 ≡ word_over s d (o + k * 2) / 256)
    (under : (j : ℕ) → j < o → get_or e j 0 ≡ get_or d j 0) (past : (j : ℕ) → o + n * 2 ≤ j → get_or e j 0 ≡ get_or d j 0) where
  words-at : (j : ℕ) → o ≤ j → j < o + n * 2 → get_or e j 0 ≡ over_at s.colour d j
  words-at j l u =
      let k : (j - o) / 2 < n = omega arith in
      let i : (o + (j - o) / 2 * 2) % 2 ≡ 0 = omega arith in
      ⊎_elim
      (λ z. subst (λ (q : ℕ). get_or e q 0 ≡ over_at s.colour d q) (omega arith) (low ((j - o) / 2) k ∙ at_low s d in-d (o + (j - o) / 2 * 2) i))
      (λ z. subst (λ (q : ℕ). get_or e q 0 ≡ over_at s.colour d q) (omega arith) (high ((j - o) / 2) k ∙ at_high s d in-d (o + (j - o) / 2 * 2) i))
      (eq-zero-or-pos ((j - o) % 2))

  pub words-done : Done (over_at s.colour d) d e o (o + n * 2)
  words-done = record { done = words-at; under = under; past = past }

-- lane k of four pixels at o
pub lane_over : (s : Solid) (d b : List ℕ) (o k : ℕ) → o % 4 ≡ 0 → get_or b k 0 ≡ two d (o + k * 2) →
    duo (65535 - half_of s k) 255 (get_or b k 0) s.rest ≡ word_over s d (o + k * 2)
unfolding word_over
lane_over s d b o k four is_b =
    let i : (o + k * 2) / 2 % 2 ≡ k % 2 = omega arith in
    cc

-- ---- a part more

over-ahead : (c : Colour) → Ahead (over_at c)
unfolding over_at
over-ahead c d e j same = ap (λ (n : ℕ). blended_channel (channel_at c j) 255 n (255 - c.alpha)) (same j (omega arith))

pub over-more : (c : Colour) (d₀ d d' : List ℕ) (a o n : ℕ) → a ≤ o → o ≤ n → Done (over_at c d₀) d₀ d a o → Done (over_at c d) d d' o n → Done (over_at c d₀) d₀ d' a n
over-more c d₀ d d' a o n h k was did = more-done (over_at c) (over-ahead c) d₀ d d' a o n h k was did

-- from a place that is another by name only
pub from_start : (P : ℕ → ℕ) (d e : List ℕ) (a b n : ℕ) → a ≡ b → Done P d e a n → Done P d e b n
from_start P d e a b n q did = rw (← q) did

-- ---- colours

module _ (c : Colour) (d e : List ℕ) (width : ℕ) (in-d : Row d) (in_e : Row e) (long : length d ≡ width * 4) (same : length e ≡ length d) (did : Done (over_at c d) d e 0 (width * 4)) where
  over-colour : (x : ℕ) → x < width → colour_in e x ≡ blended (blend_mode_factors SrcOver) c (colour_in d x)
  unfolding blended over_at
  over-colour x l =
      let i₃ : (x * 4 + 3) % 4 ≡ 3 = omega arith in
      let i₂ : (x * 4 + 2) % 4 ≡ 2 = omega arith in
      let i₁ : (x * 4 + 1) % 4 ≡ 1 = omega arith in
      let i₀ : x * 4 % 4 ≡ 0 = omega arith in
      let a = did.done (x * 4 + 3) (omega arith) (omega arith) in
      let r = did.done (x * 4 + 2) (omega arith) (omega arith) in
      let g = did.done (x * 4 + 1) (omega arith) (omega arith) in
      let b = did.done (x * 4) (omega arith) (omega arith) in
      colour-is e (x * 4) in_e (omega arith)
      ∙ rw (colour-is d (x * 4) in-d (omega arith), a, r, g, b, i₃, i₂, i₁, i₀)

  pub over-row : e ≡ row_stored Argb8888 (λ x. blended (blend_mode_factors SrcOver) c (colour_in d x)) d
  over-row = row_is d e width in-d in_e (omega arith) (omega arith) _ same long over-colour

-- what a task's colours come to, under SRC_OVER and with the destination's own alphas
pub composite-over : (blending : Blending) (source destination : Alpha) (s d : Colour) → blending.rule ≡ blend_mode_factors SrcOver → destination.mode ≡ Pixel →
    blended (blend_mode_factors SrcOver) (with_surface_alpha source (source_for_blending blending s)) d ≡ composite blending source destination s d
unfolding composite
composite-over blending source destination s d r m = rw (r, m)
