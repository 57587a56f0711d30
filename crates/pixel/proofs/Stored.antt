-- Stored pixels to colours and back, once for every layout whose channels are 4 to 8 bits wide.
use mathlib.Core.Logic.{◌⊎◌, inl, inr, ⊎_elim}
use mathlib.Core.Path.{◌≡◌, refl, sym, ap, ◌∙◌}
use Prim.Native.Nat.{ℕ, ◌+◌, ◌*◌, ◌/◌, ◌%◌, ◌^◌, ◌≤◌, ◌<◌}
use native.Mathlib.Omega.{arith}
use native.Mathlib.Nat.{mod-lt, mul_assoc, mod-one, mod-eq_of_lt}
use mathlib.Core.Bool.{false, cond}
use lib.Dec.{eqb, lit<, lit≤}
use borrow.Author.Tests.{ne_eqb}
use lib.Arith.{digits_div, digits_mod, digits_lt, mod-mul}
use lib.Pow.{pow_pos, pow-add}
use Rattle.pixel.specs.declared.colour.Colour.{Colour}
use Rattle.pixel.specs.declared.format.Layout.{Layout}
use Rattle.pixel.specs.declared.format.Format.{Format}
use Rattle.pixel.specs.declared.format.Format.TheVariants.{Argb8888, Rgb888, Rgb565}
use Rattle.pixel.specs.Formats.{layout_of, bytes_per_pixel}
use Rattle.pixel.specs.Colours.{widened, narrowed, unpacked, packed}
use Rattle.pixel.proofs.Channels.{narrowed-widened, narrowed_none, narrowed-small}

-- the lowest bits of a number, k more of them
more_bits : (n k low : ℕ) → n / 2 ^ low % 2 ^ k * 2 ^ low + n % 2 ^ low ≡ n % 2 ^ (k + low)
more_bits n k low = sym (ap (λ (m : ℕ). n % m) (pow-add 2 k low) ∙ mod-mul n (pow_pos k) (pow_pos low))

-- the bits of a channel fit in it
channel-fits : (n k low : ℕ) → n / 2 ^ low % 2 ^ k < 2 ^ k
channel-fits n k low = mod-lt (n / 2 ^ low) (pow_pos k)

-- a channel of this width is one that widening keeps
pub record Channel (width : ℕ) : Type 0 where
  pub some : 4 ≤ width
  pub most : width ≤ 8

-- the layouts that the law below speaks of: alpha may be absent
pub record Sound (l : Layout) : Type 0 where
  pub alpha : (l.alpha ≡ 0) ⊎ Channel l.alpha
  pub red : Channel l.red
  pub green : Channel l.green
  pub blue : Channel l.blue

back : (width low pixel : ℕ) → Channel width → narrowed width (widened width (pixel / 2 ^ low % 2 ^ width)) ≡ pixel / 2 ^ low % 2 ^ width
back width low pixel c = narrowed-widened width c.some c.most (pixel / 2 ^ low % 2 ^ width) (channel-fits pixel width low)

module _ (l : Layout) (s : Sound l) where
  abbrev rgb : ℕ
  rgb = l.red + l.green + l.blue

  alpha-back : (pixel : ℕ) → narrowed l.alpha (unpacked l pixel).alpha ≡ pixel / 2 ^ rgb % 2 ^ l.alpha
  unfolding unpacked
  alpha-back pixel = ⊎_elim absent present s.alpha
    where
      absent : l.alpha ≡ 0 → narrowed l.alpha (unpacked l pixel).alpha ≡ pixel / 2 ^ rgb % 2 ^ l.alpha
      absent e = rw e (narrowed_none 255 (lit< tt) ∙ sym (mod-one (pixel / 2 ^ rgb)))

      present : Channel l.alpha → narrowed l.alpha (unpacked l pixel).alpha ≡ pixel / 2 ^ rgb % 2 ^ l.alpha
      present c =
          let e : eqb l.alpha 0 ≡ false = ne_eqb l.alpha 0 (λ z. omega (arith, c.some)) in
          rw e (back l.alpha rgb pixel c)

  -- a stored pixel made a colour and stored again is the same
  pub packed-unpacked : (pixel : ℕ) → packed l (unpacked l pixel) ≡ pixel % 2 ^ (l.alpha + rgb)
  unfolding packed unpacked
  packed-unpacked pixel =
      let assoc : l.red + (l.green + l.blue) ≡ rgb = omega arith in
      let lowest : pixel / 1 ≡ pixel = omega arith in
      let two = more_bits pixel l.green l.blue in
      let three = more_bits pixel l.red (l.green + l.blue) ∙ ap (λ (n : ℕ). pixel % 2 ^ n) assoc in
      let four = more_bits pixel l.alpha rgb in
      rw (alpha-back pixel, back l.red (l.green + l.blue) pixel s.red, back l.green l.blue pixel s.green, back l.blue 0 pixel s.blue, lowest)
      (omega (arith, two, three, four))

-- what a layout keeps of a colour
abbrev pub kept : Layout → Colour → Colour
kept l c = record {
  alpha = cond (eqb l.alpha 0) 255 (widened l.alpha (narrowed l.alpha c.alpha));
  red = widened l.red (narrowed l.red c.red);
  green = widened l.green (narrowed l.green c.green);
  blue = widened l.blue (narrowed l.blue c.blue);
}

-- each channel is a byte
pub record Bytes (c : Colour) : Type 0 where
  pub alpha : c.alpha < 256
  pub red : c.red < 256
  pub green : c.green < 256
  pub blue : c.blue < 256

-- no channel is wider than a byte
pub record Narrow (l : Layout) : Type 0 where
  pub alpha : l.alpha ≤ 8
  pub red : l.red ≤ 8
  pub green : l.green ≤ 8
  pub blue : l.blue ≤ 8

-- two digits, the lower `low` bits wide and the higher `k`
digits_small : (k low v rest : ℕ) → v < 2 ^ k → rest < 2 ^ low → v * 2 ^ low + rest < 2 ^ (k + low)
digits_small k low v rest hv hr = rw (pow-add 2 k low) (digits_lt hv hr)

-- four channels side by side, each read back
module _ (a r g b A R G B : ℕ) (ha : A < 2 ^ a) (hr : R < 2 ^ r) (hg : G < 2 ^ g) (hb : B < 2 ^ b) where
  abbrev row : ℕ
  row = A * 2 ^ (r + g + b) + R * 2 ^ (g + b) + G * 2 ^ b + B

  widths : r + (g + b) ≡ r + g + b
  widths = omega arith

  low-two : G * 2 ^ b + B < 2 ^ (g + b)
  low-two = digits_small g b G B hg hb

  low_three : R * 2 ^ (g + b) + (G * 2 ^ b + B) < 2 ^ (r + g + b)
  low_three = rw widths at (digits_small r (g + b) R (G * 2 ^ b + B) hr low-two)

  -- the channels above one that starts at bit g + b, and above one that starts at bit b
  above-two : row ≡ (A * 2 ^ r + R) * 2 ^ (g + b) + (G * 2 ^ b + B)
  above-two =
      let e : A * 2 ^ (r + g + b) ≡ A * 2 ^ r * 2 ^ (g + b) =
      ap (λ (n : ℕ). A * n) (ap (λ (n : ℕ). 2 ^ n) (sym widths) ∙ pow-add 2 r (g + b)) ∙ sym (mul_assoc A (2 ^ r) (2 ^ (g + b)))
      in omega arith

  above-one : row ≡ ((A * 2 ^ r + R) * 2 ^ g + G) * 2 ^ b + B
  above-one =
      let e : (A * 2 ^ r + R) * 2 ^ (g + b) ≡ (A * 2 ^ r + R) * 2 ^ g * 2 ^ b =
      ap (λ (n : ℕ). (A * 2 ^ r + R) * n) (pow-add 2 g b) ∙ sym (mul_assoc (A * 2 ^ r + R) (2 ^ g) (2 ^ b))
      in above-two ∙ omega arith

  alpha-read : row / 2 ^ (r + g + b) % 2 ^ a ≡ A
  alpha-read =
      let e : row ≡ A * 2 ^ (r + g + b) + (R * 2 ^ (g + b) + (G * 2 ^ b + B)) = omega arith in
      ap (λ (n : ℕ). n / 2 ^ (r + g + b) % 2 ^ a) e ∙ ap (λ (n : ℕ). n % 2 ^ a) (digits_div A low_three) ∙ mod-eq_of_lt ha

  red-read : row / 2 ^ (g + b) % 2 ^ r ≡ R
  red-read =
      ap (λ (n : ℕ). n / 2 ^ (g + b) % 2 ^ r) above-two ∙ ap (λ (n : ℕ). n % 2 ^ r) (digits_div (A * 2 ^ r + R) low-two) ∙ digits_mod A hr

  green-read : row / 2 ^ b % 2 ^ g ≡ G
  green-read =
      ap (λ (n : ℕ). n / 2 ^ b % 2 ^ g) above-one
      ∙ ap (λ (n : ℕ). n % 2 ^ g) (digits_div ((A * 2 ^ r + R) * 2 ^ g + G) hb)
      ∙ digits_mod (A * 2 ^ r + R) hg

  blue-read : row / 1 % 2 ^ b ≡ B
  blue-read =
      let lowest : row / 1 ≡ row = omega arith in
      ap (λ (n : ℕ). n % 2 ^ b) (lowest ∙ above-one) ∙ digits_mod ((A * 2 ^ r + R) * 2 ^ g + G) hb

-- a colour stored and made a colour again is what the layout keeps of it
pub unpacked-packed : (l : Layout) → Narrow l → (c : Colour) → Bytes c → unpacked l (packed l c) ≡ kept l c
unfolding packed unpacked
unpacked-packed l n c h =
    let A : ℕ = narrowed l.alpha c.alpha in
    let R : ℕ = narrowed l.red c.red in
    let G : ℕ = narrowed l.green c.green in
    let B : ℕ = narrowed l.blue c.blue in
    let ha = narrowed-small l.alpha c.alpha n.alpha h.alpha in
    let hr = narrowed-small l.red c.red n.red h.red in
    let hg = narrowed-small l.green c.green n.green h.green in
    let hb = narrowed-small l.blue c.blue n.blue h.blue in
    rw (
      alpha-read l.alpha l.red l.green l.blue A R G B ha hr hg hb,
      red-read l.alpha l.red l.green l.blue A R G B ha hr hg hb,
      green-read l.alpha l.red l.green l.blue A R G B ha hr hg hb,
      blue-read l.alpha l.red l.green l.blue A R G B ha hr hg hb,
    )

-- both laws at the three formats
byte : Channel 8
byte = record { some = lit≤ tt; most = lit≤ tt }

pub sound : (f : Format) → Sound (layout_of f)
sound Argb8888 = record { alpha = inr (record { some = lit≤ tt; most = lit≤ tt }); red = byte; green = byte; blue = byte }
sound Rgb888 = record { alpha = inl refl; red = byte; green = byte; blue = byte }
sound Rgb565 = record { alpha = inl refl; red = record { some = lit≤ tt; most = lit≤ tt }; green = record { some = lit≤ tt; most = lit≤ tt }; blue = record { some = lit≤ tt; most = lit≤ tt } }

pub narrow : (f : Format) → Narrow (layout_of f)
narrow Argb8888 = record { alpha = lit≤ tt; red = lit≤ tt; green = lit≤ tt; blue = lit≤ tt }
narrow Rgb888 = record { alpha = lit≤ tt; red = lit≤ tt; green = lit≤ tt; blue = lit≤ tt }
narrow Rgb565 = record { alpha = lit≤ tt; red = lit≤ tt; green = lit≤ tt; blue = lit≤ tt }

-- a pixel made a colour and stored again in its format has the same bytes
pub packed_again : (f : Format) (pixel : ℕ) → packed (layout_of f) (unpacked (layout_of f) pixel) ≡ pixel % 256 ^ bytes_per_pixel f
packed_again Argb8888 pixel = packed-unpacked (layout_of Argb8888) (sound Argb8888) pixel
packed_again Rgb888 pixel = packed-unpacked (layout_of Rgb888) (sound Rgb888) pixel
packed_again Rgb565 pixel = packed-unpacked (layout_of Rgb565) (sound Rgb565) pixel

pub stored_same : (f : Format) (pixel : ℕ) → pixel < 256 ^ bytes_per_pixel f → packed (layout_of f) (unpacked (layout_of f) pixel) ≡ pixel
stored_same f pixel small = packed_again f pixel ∙ mod-eq_of_lt small
