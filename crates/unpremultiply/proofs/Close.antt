-- How near the division by the table comes.
use mathlib.Core.Path.{◌≡◌, refl}
use Prim.Native.Nat.{ℕ, ◌+◌, ◌*◌, ◌/◌, ◌≤◌, ◌<◌, min}
use native.Mathlib.Nat.{mul-le-mul_left, mul-le-mul_right, mod-lt, mod-add-div'}
use native.Mathlib.Omega.{arith}
use Rattle.lanes.proofs.Laws.{under_or}
use borrow.Author.Tests.{ne_eqb}
use Rattle.unpremultiply.specs.Unpremultiply.{reciprocal_of, unpremultiplied_channel}
use Rattle.unpremultiply.specs.Close.{Close, DivisionByAlpha}

-- of every alpha but 0
module _ (a : ℕ) (above : 0 < a) where
  whole : reciprocal_of a ≡ 16711680 / a
  unfolding reciprocal_of
  whole = rw (ne_eqb a 0 (λ e. omega arith))

  -- an entry times its alpha is 16,711,680, or below it by less than the alpha
  entry-low : reciprocal_of a * a ≤ 16711680
  entry-low = rw whole (omega (arith, mod-add-div' 16711680 a))

  entry_high : 16711680 < reciprocal_of a * a + a
  entry_high = rw whole (omega (arith, mod-add-div' 16711680 a, mod-lt 16711680 above))

  -- and of a colour that it can have been multiplied to
  module _ (small : a < 256) (c : ℕ) (le : c ≤ a) (q : ℕ) (low : q * 65536 ≤ c * reciprocal_of a + 32768) (high : c * reciprocal_of a + 32768 ≤ q * 65536 + 65535) where
    low_a : q * 65536 * a ≤ (c * reciprocal_of a + 32768) * a
    low_a = mul-le-mul_right a low

    high_a : (c * reciprocal_of a + 32768) * a ≤ (q * 65536 + 65535) * a
    high_a = mul-le-mul_right a high

    p-low : c * (reciprocal_of a * a) ≤ c * 16711680
    p-low = mul-le-mul_left c entry-low

    p_high : c * 16711680 ≤ c * (reciprocal_of a * a + a)
    p_high = mul-le-mul_left c (omega (arith, entry_high))

    r : c * a ≤ 255 * a
    r = mul-le-mul_right a (omega arith)

    not_above : q * a < 255 * c + a
    not_above = omega (arith, low_a, p-low)

    not_below : 255 * c < q * a + a
    not_below = omega (arith, high_a, p_high, r)

    not-over : q ≤ 255
    not-over = under_or 255 q (λ l. absurd (omega (arith, low_a, p-low, mul-le-mul_right a l))) (λ l. l)

close : (a c : ℕ) → 0 < a → a < 256 → c ≤ a → Close a c
unfolding unpremultiplied_channel
close a c above small le =
    let n : ℕ = c * reciprocal_of a + 32768 in
    let q : ℕ = n / 65536 in
    let low : q * 65536 ≤ n = omega arith in
    let high : n ≤ q * 65536 + 65535 = omega arith in
    let held : min 255 q ≡ q = omega (arith, not-over a above small c le q low high) in
    record {
      not_above = rw held (not_above a above small c le q low high);
      not_below = rw held (not_below a above small c le q low high);
      not_held = held;
    }

pub division_by_alpha : DivisionByAlpha
unfolding unpremultiplied_channel reciprocal_of
division_by_alpha = record {
  close = close;
  entry = refl;
  worked = refl;
  clear = λ c. omega arith;
  opaque = λ c l. omega arith;
}
