-- The colours of a row by its bytes.
use mathlib.Core.Path.{◌≡◌, refl, sym, ap, ◌∙◌, subst}
use mathlib.Core.List.{List}
use Prim.Native.Nat.{ℕ, ◌+◌, ◌*◌, ◌/◌, ◌%◌, ◌≤◌, ◌<◌}
use native.Mathlib.Omega.{arith}
use lib.ListN.{length, get_or}
use Rattle.word.specs.Word.{byte_of}
use Rattle.pixel.specs.Blending.{blended}
use Rattle.pixel.specs.Colours.{narrowed, packed}
use Rattle.pixel.specs.Formats.{layout_of}
use Rattle.pixel.specs.declared.colour.Colour.{Colour}
use Rattle.pixel.specs.declared.blend.BlendFactors.{BlendFactors}
use Rattle.pixel.specs.declared.format.Format.TheVariants.{Argb8888}
use Rattle.pixel.proofs.Stored.{Bytes}
use Rattle.pixel.proofs.Kept.{word-colour}
use Rattle.surface.specs.Drawn.{load_pixel}
use Rattle.surface.specs.Rows.{row_byte}
use Rattle.surface.proofs.Loaded.{loaded_bytes}
use Rattle.surface.proofs.Mapi.{is-mapi}
use Rattle.row_pixels.specs.Row.{colour_in, row_stored}
use Rattle.lanes.specs.Lanes.{Done}
use Rattle.lanes.proofs.Laws.{under_or}
use Rattle.plan.specs.Blend.{blend_at}

-- a row of bytes
abbrev pub Row : List ℕ → Type 0
Row s = (j : ℕ) → get_or s j 0 < 256

-- ---- one pixel

-- the bytes of a packed colour
module _ (c : Colour) (h : Bytes c) where
  byte-blue : byte_of (packed (layout_of Argb8888) c) 0 ≡ c.blue
  unfolding byte_of packed narrowed
  byte-blue = omega (arith, h.alpha, h.red, h.green, h.blue)

  byte-green : byte_of (packed (layout_of Argb8888) c) 1 ≡ c.green
  unfolding byte_of packed narrowed
  byte-green = omega (arith, h.alpha, h.red, h.green, h.blue)

  byte-red : byte_of (packed (layout_of Argb8888) c) 2 ≡ c.red
  unfolding byte_of packed narrowed
  byte-red = omega (arith, h.alpha, h.red, h.green, h.blue)

  byte-alpha : byte_of (packed (layout_of Argb8888) c) 3 ≡ c.alpha
  unfolding byte_of packed narrowed
  byte-alpha = omega (arith, h.alpha, h.red, h.green, h.blue)

  -- where a list has the colour's channels at i, it has the bytes of its packed pixel there
  pub four_bytes : (m : List ℕ) (i : ℕ) → get_or m i 0 ≡ c.blue → get_or m (i + 1) 0 ≡ c.green → get_or m (i + 2) 0 ≡ c.red → get_or m (i + 3) 0 ≡ c.alpha →
      (k : ℕ) → k < 4 → get_or m (i + k) 0 ≡ byte_of (packed (layout_of Argb8888) c) k
  four_bytes m i b g r a k l =
      under_or k 2
      (λ p. under_or k 1
      (λ q. let e : k ≡ 0 = omega arith in let z : i + 0 ≡ i = omega arith in rw (e, z) (b ∙ sym byte-blue))
      (λ q. let e : k ≡ 1 = omega arith in rw e (g ∙ sym byte-green)))
      (λ p. under_or k 3
      (λ q. let e : k ≡ 2 = omega arith in rw e (r ∙ sym byte-red))
      (λ q. let e : k ≡ 3 = omega arith in rw e (a ∙ sym byte-alpha)))

-- the colour whose channels lie at i
abbrev pub bytes_at : List ℕ → ℕ → Colour
bytes_at m i = record { alpha = get_or m (i + 3) 0; red = get_or m (i + 2) 0; green = get_or m (i + 1) 0; blue = get_or m i 0 }

pub all-bytes : (m : List ℕ) (i : ℕ) → Row m → Bytes (bytes_at m i)
all-bytes m i h = record { alpha = h (i + 3); red = h (i + 2); green = h (i + 1); blue = h i }

pub colour-is : (m : List ℕ) (i : ℕ) → Row m → i + 4 ≤ length m → load_pixel Argb8888 m i ≡ bytes_at m i
colour-is m i h l =
    loaded_bytes Argb8888 m i (bytes_at m i) l (four_bytes (bytes_at m i) (all-bytes m i h) m i refl refl refl refl)
    ∙ word-colour (bytes_at m i) (all-bytes m i h)

-- ---- a row

module _ (d e : List ℕ) (width : ℕ) (in-d : Row d) (in_e : Row e) (long-d : width * 4 ≤ length d) (long-e : width * 4 ≤ length e) where
  pub blend_colour : (rule : BlendFactors) (s : List ℕ) → Row s → width * 4 ≤ length s → Done (blend_at rule s d) d e 0 (width * 4) → (x : ℕ) → x < width →
      colour_in e x ≡ blended rule (colour_in s x) (colour_in d x)
  unfolding blended blend_at
  blend_colour rule s in-s long-s did x l =
      let i₃ : (x * 4 + 3) / 4 * 4 + 3 ≡ x * 4 + 3 = omega arith in
      let i₂ : (x * 4 + 2) / 4 * 4 + 3 ≡ x * 4 + 3 = omega arith in
      let i₁ : (x * 4 + 1) / 4 * 4 + 3 ≡ x * 4 + 3 = omega arith in
      let i₀ : x * 4 / 4 * 4 + 3 ≡ x * 4 + 3 = omega arith in
      let a = did.done (x * 4 + 3) (omega arith) (omega arith) in
      let r = did.done (x * 4 + 2) (omega arith) (omega arith) in
      let h = did.done (x * 4 + 1) (omega arith) (omega arith) in
      let b = did.done (x * 4) (omega arith) (omega arith) in
      colour-is e (x * 4) in_e (omega arith)
      ∙ rw (colour-is s (x * 4) in-s (omega arith), colour-is d (x * 4) in-d (omega arith), a, r, h, b, i₃, i₂, i₁, i₀)

  -- a row is given by its colours
  pub row_is : (p : ℕ → Colour) → length e ≡ length d → length d ≡ width * 4 → ((x : ℕ) → x < width → colour_in e x ≡ p x) → e ≡ row_stored Argb8888 p d
  unfolding row_stored row_byte
  row_is p same long is =
      is-mapi _ d e same
      (λ j l.
      let x : j / 4 < width = omega arith in
      let i : j / 4 * 4 + j % 4 ≡ j = omega arith in
      let c = bytes_at e (j / 4 * 4) in
      let q : c ≡ p (j / 4) = sym (colour-is e (j / 4 * 4) in_e (omega arith)) ∙ is (j / 4) x in
      subst (λ (n : ℕ). get_or e n 0 ≡ byte_of (packed (layout_of Argb8888) (p (j / 4))) (j % 4)) i
      (four_bytes c (all-bytes e (j / 4 * 4) in_e) e (j / 4 * 4) refl refl refl refl (j % 4) (omega arith)
      ∙ ap (λ (k : Colour). byte_of (packed (layout_of Argb8888) k) (j % 4)) q))
