-- What the formats share, proved once over the width of a channel: widening keeps the channel's bits, and narrowing takes
-- them back out.
use mathlib.Core.Path.{◌≡◌, sym, ap, ◌∙◌}
use Prim.Native.Nat.{ℕ, ◌+◌, ◌-◌, ◌*◌, ◌/◌, ◌^◌, ◌≤◌, ◌<◌}
use native.Mathlib.Nat.{div-lt_iff_lt-mul, mul-le-mul_right}
use native.Mathlib.Omega.{arith}
use lib.Arith.{digits_div}
use lib.Pow.{pow_pos, pow-add}
use Rattle.pixel.specs.Colours.{widened, narrowed}

-- a channel as wide as a byte is itself
pub widened-byte : (c : ℕ) → c < 256 → widened 8 c ≡ c
unfolding widened
widened-byte c small = omega arith

pub narrowed-byte : (c : ℕ) → narrowed 8 c ≡ c
unfolding narrowed
narrowed-byte c = omega arith

-- a channel that is absent takes nothing of a byte
pub narrowed_none : (c : ℕ) → c < 256 → narrowed 0 c ≡ 0
unfolding narrowed
narrowed_none c small = omega arith

-- a narrowed byte fits in its channel
pub narrowed-small : (width c : ℕ) → width ≤ 8 → c < 256 → narrowed width c < 2 ^ width
unfolding narrowed
narrowed-small width c most small =
    let e : width + (8 - width) ≡ 8 = omega arith in
    let p : 2 ^ width * 2 ^ (8 - width) ≡ 256 = sym (pow-add 2 width (8 - width)) ∙ ap (λ (n : ℕ). 2 ^ n) e in
    (div-lt_iff_lt-mul (pow_pos (8 - width))).1 (rw p small)

module _ (width : ℕ) (some : 4 ≤ width) (most : width ≤ 8) (c : ℕ) (fits : c < 2 ^ width) where
  -- what widening adds below the channel's bits stays below them
  added-small : c / 2 ^ (2 * width - 8) < 2 ^ (8 - width)
  added-small =
      let e : 8 - width + (2 * width - 8) ≡ width = omega arith in
      let p : 2 ^ width ≡ 2 ^ (8 - width) * 2 ^ (2 * width - 8) = ap (λ (n : ℕ). 2 ^ n) (sym e) ∙ pow-add 2 (8 - width) (2 * width - 8) in
      (div-lt_iff_lt-mul (pow_pos (2 * width - 8))).1 (rw p at fits)

  -- narrowing undoes widening
  pub narrowed-widened : narrowed width (widened width c) ≡ c
  unfolding narrowed widened
  narrowed-widened = digits_div c added-small

  -- a widened channel is a byte
  pub widened_small : widened width c < 256
  unfolding widened
  widened_small =
      let e : width + (8 - width) ≡ 8 = omega arith in
      let p : 2 ^ width * 2 ^ (8 - width) ≡ 256 = sym (pow-add 2 width (8 - width)) ∙ ap (λ (n : ℕ). 2 ^ n) e in
      let q : (c + 1) * 2 ^ (8 - width) ≤ 2 ^ width * 2 ^ (8 - width) = mul-le-mul_right (2 ^ (8 - width)) (omega arith) in
      omega (arith, added-small)
