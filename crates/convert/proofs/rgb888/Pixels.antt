-- One pixel of RGB888 more.
use mathlib.Core.Path.{◌≡◌, refl, sym, ap, ◌∙◌, subst}
use mathlib.Core.List.{List}
use Prim.Native.Nat.{ℕ, ◌+◌, ◌-◌, ◌*◌, ◌/◌, ◌%◌, ◌≤◌, ◌<◌}
use native.Mathlib.Omega.{arith}
use lib.ListN.{length, get_or, set, length-set}
use lib.Seq.{get_or-set_same}
use lib.Dec.{lit<}
use Rattle.pixel.proofs.Stored.{Bytes, narrow, unpacked-packed}
use Rattle.pixel.proofs.Channels.{widened-byte, narrowed-byte}
use Rattle.lanes.proofs.Laws.{set-under, set_past, under_or}
use Rattle.word.specs.Word.{byte_of}
use Rattle.pixel.specs.Colours.{widened, narrowed, packed}
use Rattle.pixel.specs.Formats.{layout_of}
use Rattle.pixel.specs.declared.colour.Colour.{Colour}
use Rattle.pixel.specs.declared.format.Format.TheVariants.{Argb8888, Rgb888}
use Rattle.surface.specs.Drawn.{load_pixel}
use Rattle.surface.specs.Rows.{row_byte}
use Rattle.surface.proofs.Loaded.{loaded_bytes}
use Rattle.row_pixels.specs.Row.{colour_in}
use Rattle.lanes.specs.Lanes.{Done}
use Rattle.lanes.proofs.Passes.{more-done}
use Rattle.row_pixels.proofs.RowColours.Colours.{Row, bytes_at, all-bytes, four_bytes, colour-is}
use Rattle.row_pixels.specs.Line.{pixel_byte}
use Rattle.row_pixels.proofs.RowColours.Stored.{four-more}
use Rattle.convert.specs.Three.{Three}

pub three_set : (d : List ℕ) (o b g r : ℕ) → o + 3 ≤ length d → Three d (set (set (set d o b) (o + 1) g) (o + 2) r) o b g r
three_set d o b g r h = record {
  first = set-under (set (set d o b) (o + 1) g) (o + 2) o r (omega arith) ∙ (set-under (set d o b) (o + 1) o g (omega arith) ∙ get_or-set_same d o b 0 (omega arith));
  second = set-under (set (set d o b) (o + 1) g) (o + 2) (o + 1) r (omega arith) ∙ get_or-set_same (set d o b) (o + 1) g 0 (simp length-set (omega arith));
  third = get_or-set_same (set (set d o b) (o + 1) g) (o + 2) r 0 (simp length-set (omega arith));
  under = λ j l. set-under (set (set d o b) (o + 1) g) (o + 2) j r (omega arith) ∙ (set-under (set d o b) (o + 1) j g (omega arith) ∙ set-under d o j b l);
  past = λ j l. set_past (set (set d o b) (o + 1) g) (o + 2) j r (omega arith) ∙ (set_past (set d o b) (o + 1) j g (omega arith) ∙ set_past d o j b (omega arith));
}

module _ (c : Colour) (h : Bytes c) where
  rgb-blue : byte_of (packed (layout_of Rgb888) c) 0 ≡ c.blue
  unfolding byte_of packed narrowed
  rgb-blue = let z : c.alpha / 256 ≡ 0 = omega (arith, h.alpha) in omega (arith, h.red, h.green, h.blue)

  rgb-green : byte_of (packed (layout_of Rgb888) c) 1 ≡ c.green
  unfolding byte_of packed narrowed
  rgb-green = let z : c.alpha / 256 ≡ 0 = omega (arith, h.alpha) in omega (arith, h.red, h.green, h.blue)

  rgb-red : byte_of (packed (layout_of Rgb888) c) 2 ≡ c.red
  unfolding byte_of packed narrowed
  rgb-red = let z : c.alpha / 256 ≡ 0 = omega (arith, h.alpha) in omega (arith, h.red, h.green, h.blue)

  three_bytes : (m : List ℕ) (i : ℕ) → get_or m i 0 ≡ c.blue → get_or m (i + 1) 0 ≡ c.green → get_or m (i + 2) 0 ≡ c.red →
      (k : ℕ) → k < 3 → get_or m (i + k) 0 ≡ byte_of (packed (layout_of Rgb888) c) k
  three_bytes m i b g r k l =
      under_or k 1
      (λ p. let e : k ≡ 0 = omega arith in let z : i + 0 ≡ i = omega arith in rw (e, z) (b ∙ sym rgb-blue))
      (λ p. under_or k 2
      (λ q. let e : k ≡ 1 = omega arith in rw e (g ∙ sym rgb-green))
      (λ q. let e : k ≡ 2 = omega arith in rw e (r ∙ sym rgb-red)))

-- a pixel of RGB888 by its bytes
abbrev opaque_at : List ℕ → ℕ → Colour
opaque_at m i = record { alpha = 255; red = get_or m (i + 2) 0; green = get_or m (i + 1) 0; blue = get_or m i 0 }

byte-kept : (c : ℕ) → c < 256 → widened 8 (narrowed 8 c) ≡ c
byte-kept c l = ap (widened 8) (narrowed-byte c) ∙ widened-byte c l

loaded_888 : (s : List ℕ) (i : ℕ) → Row s → i + 3 ≤ length s → load_pixel Rgb888 s i ≡ opaque_at s i
loaded_888 s i h l =
    let b : Bytes (opaque_at s i) = record { alpha = lit< tt; red = h (i + 2); green = h (i + 1); blue = h i } in
    loaded_bytes Rgb888 s i (opaque_at s i) l (three_bytes (opaque_at s i) b s i refl refl refl)
    ∙ (unpacked-packed (layout_of Rgb888) (narrow Rgb888) (opaque_at s i) b
    ∙ rw (byte-kept (get_or s (i + 2) 0) (h (i + 2)), byte-kept (get_or s (i + 1) 0) (h (i + 1)), byte-kept (get_or s i 0) (h i)))

-- one pixel more, stored as RGB888
module _ (s d₀ d e : List ℕ) (x : ℕ) (in-s : Row s) (long : x * 4 + 4 ≤ length s) (put : Three d e (x * 3) (get_or s (x * 4) 0) (get_or s (x * 4 + 1) 0) (get_or s (x * 4 + 2) 0)) where
  three_at : (k : ℕ) → k < 3 → get_or e (x * 3 + k) 0 ≡ pixel_byte Rgb888 (λ n. colour_in s n) (x * 3 + k)
  unfolding row_byte
  three_at k l =
      let i : (x * 3 + k) / 3 ≡ x = omega arith in
      let m : (x * 3 + k) % 3 ≡ k = omega arith in
      three_bytes (bytes_at s (x * 4)) (all-bytes s (x * 4) in-s) e (x * 3) put.first put.second put.third k l
      ∙ (ap (λ (c : Colour). byte_of (packed (layout_of Rgb888) c) k) (sym (colour-is s (x * 4) in-s long)) ∙ rw (i, m))

  pub three_more : Done (pixel_byte Rgb888 (λ n. colour_in s n)) d₀ d 0 (x * 3) → Done (pixel_byte Rgb888 (λ n. colour_in s n)) d₀ e 0 ((x + 1) * 3)
  three_more was =
      more-done (λ l. pixel_byte Rgb888 (λ n. colour_in s n)) (λ a b j same. refl) d₀ d e 0 (x * 3) ((x + 1) * 3) (omega arith) (omega arith) was
      (record {
        done = λ j h l. subst (λ (n : ℕ). get_or e n 0 ≡ pixel_byte Rgb888 (λ n. colour_in s n) n) (omega arith) (three_at (j - x * 3) (omega arith));
        under = put.under;
        past = λ j l. put.past j (omega arith);
      })

-- one pixel of RGB888 more, made ARGB8888
pub opaque-more : (s d₀ d e : List ℕ) (x : ℕ) → Row s → x * 3 + 3 ≤ length s → x * 4 + 3 < length e → Three d e (x * 4) (get_or s (x * 3) 0) (get_or s (x * 3 + 1) 0) (get_or s (x * 3 + 2) 0) →
    Done (pixel_byte Argb8888 (λ n. load_pixel Rgb888 s (n * 3))) d₀ d 0 (x * 4) → Done (pixel_byte Argb8888 (λ n. load_pixel Rgb888 s (n * 3))) d₀ (set e (x * 4 + 3) 255) 0 ((x + 1) * 4)
opaque-more s d₀ d e x in-s long room put was =
    let f : List ℕ = set e (x * 4 + 3) 255 in
    let c : Colour = opaque_at s (x * 3) in
    let b : Bytes c = record { alpha = lit< tt; red = in-s (x * 3 + 2); green = in-s (x * 3 + 1); blue = in-s (x * 3) } in
    four-more (λ n. load_pixel Rgb888 s (n * 3)) d₀ d f x
    (λ k l.
    four_bytes c b f (x * 4)
    (set-under e (x * 4 + 3) (x * 4) 255 (omega arith) ∙ put.first)
    (set-under e (x * 4 + 3) (x * 4 + 1) 255 (omega arith) ∙ put.second)
    (set-under e (x * 4 + 3) (x * 4 + 2) 255 (omega arith) ∙ put.third)
    (get_or-set_same e (x * 4 + 3) 255 0 room) k l
    ∙ ap (λ (q : Colour). byte_of (packed (layout_of Argb8888) q) k) (sym (loaded_888 s (x * 3) in-s long)))
    (λ j l. set-under e (x * 4 + 3) j 255 (omega arith) ∙ put.under j l)
    (λ j l. set_past e (x * 4 + 3) j 255 (omega arith) ∙ put.past j (omega arith))
    was
