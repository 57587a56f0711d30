-- One pixel of RGB565 more.
use mathlib.Core.Path.{◌≡◌, refl, sym, ap, ◌∙◌, subst}
use mathlib.Core.List.{List}
use Prim.Native.Nat.{ℕ, ◌+◌, ◌*◌, ◌/◌, ◌%◌, ◌^◌, ◌≤◌, ◌<◌}
use native.Mathlib.Omega.{arith}
use lib.ListN.{length, get_or}
use Rattle.word.specs.Word.{byte_of, le32_at}
use Rattle.pixel.specs.Colours.{widened, narrowed, packed, unpacked}
use Rattle.pixel.specs.Formats.{layout_of}
use Rattle.pixel.specs.declared.colour.Colour.{Colour}
use Rattle.pixel.specs.declared.format.Format.TheVariants.{Argb8888, Rgb565}
use Rattle.surface.specs.Drawn.{load_pixel}
use Rattle.surface.specs.Rows.{row_byte}
use Rattle.surface.proofs.Loaded.{pixel_bytes}
use Rattle.row_pixels.specs.Row.{colour_in}
use Rattle.lanes.specs.Lanes.{two, Done}
use Rattle.lanes.proofs.Laws.{under_or}
use Rattle.lanes.proofs.Passes.{more-done}
use Rattle.row_pixels.proofs.RowColours.Colours.{Row, bytes_at, all-bytes, four_bytes, colour-is}
use Rattle.row_pixels.specs.Line.{pixel_byte}

module _ (p : ℕ → Colour) (d₀ d e : List ℕ) (x v : ℕ) (is : v ≡ packed (layout_of Rgb565) (p x)) (small : v ≤ 65535)
    (low : get_or e (x * 2) 0 ≡ v % 256) (high : get_or e (x * 2 + 1) 0 ≡ v / 256)
    (under : (j : ℕ) → j < x * 2 → get_or e j 0 ≡ get_or d j 0) (past : (j : ℕ) → x * 2 + 2 ≤ j → get_or e j 0 ≡ get_or d j 0) where
  byte_0 : byte_of v 0 ≡ v % 256
  unfolding byte_of
  byte_0 = omega arith

  byte_1 : byte_of v 1 ≡ v / 256
  unfolding byte_of
  byte_1 = omega arith

  at_0 : get_or e (x * 2) 0 ≡ pixel_byte Rgb565 p (x * 2)
  unfolding row_byte
  at_0 = let i : x * 2 / 2 ≡ x = omega arith in let k : x * 2 % 2 ≡ 0 = omega arith in low ∙ (sym byte_0 ∙ rw (i, k, is))

  at_1 : get_or e (x * 2 + 1) 0 ≡ pixel_byte Rgb565 p (x * 2 + 1)
  unfolding row_byte
  at_1 = let i : (x * 2 + 1) / 2 ≡ x = omega arith in let k : (x * 2 + 1) % 2 ≡ 1 = omega arith in high ∙ (sym byte_1 ∙ rw (i, k, is))

  pub two-more : Done (pixel_byte Rgb565 p) d₀ d 0 (x * 2) → Done (pixel_byte Rgb565 p) d₀ e 0 ((x + 1) * 2)
  two-more was =
      more-done (λ l. pixel_byte Rgb565 p) (λ a b j same. refl) d₀ d e 0 (x * 2) ((x + 1) * 2) (omega arith) (omega arith) was
      (record {
        done = λ j h l. under_or j (x * 2 + 1)
            (λ q. subst (λ (n : ℕ). get_or e n 0 ≡ pixel_byte Rgb565 p n) (omega arith) at_0)
            (λ q. subst (λ (n : ℕ). get_or e n 0 ≡ pixel_byte Rgb565 p n) (omega arith) at_1);
        under = under;
        past = λ j l. past j (omega arith);
      })

-- the word of a buffer's pixel, narrowed
narrow_blue : (b m w : ℕ) → b < 256 → w ≡ b + 256 * m → w / 8 % 32 ≡ b / 8
narrow_blue b m w h e = let u : w / 8 ≡ b / 8 + 32 * m = omega arith in omega arith

narrow_green : (b g m w : ℕ) → b < 256 → g < 256 → w ≡ b + 256 * g + 65536 * m → w / 1024 % 64 ≡ g / 4
narrow_green b g m w h k e = let u : w / 1024 ≡ g / 4 + 64 * m = omega arith in omega arith

narrow_red : (y r m w : ℕ) → y < 65536 → r < 256 → w ≡ y + 65536 * r + 16777216 * m → w / 524288 % 32 ≡ r / 8
narrow_red y r m w h k e = let u : w / 524288 ≡ r / 8 + 32 * m = omega arith in omega arith

narrow_sum : (a r g b : ℕ) → a < 256 → b / 8 + g / 4 * 32 + r / 8 * 2048 ≡ a / 2 ^ 8 * 2 ^ (5 + 6 + 5) + r / 2 ^ 3 * 2 ^ (6 + 5) + g / 2 ^ 2 * 2 ^ 5 + b / 2 ^ 3
narrow_sum a r g b h = let z : a / 256 ≡ 0 = omega arith in omega arith

pub narrow_is : (s : List ℕ) (x w : ℕ) → Row s → x * 4 + 4 ≤ length s → w ≡ le32_at s (x * 4) →
    w / 8 % 32 + w / 1024 % 64 * 32 + w / 524288 % 32 * 2048 ≡ packed (layout_of Rgb565) (colour_in s x)
unfolding packed narrowed le32_at
narrow_is s x w h l e =
    let b = get_or s (x * 4) 0 in let g = get_or s (x * 4 + 1) 0 in let r = get_or s (x * 4 + 2) 0 in let a = get_or s (x * 4 + 3) 0 in
    let hb : b < 256 = h (x * 4) in let hg : g < 256 = h (x * 4 + 1) in let hr : r < 256 = h (x * 4 + 2) in let ha : a < 256 = h (x * 4 + 3) in
    rw (colour-is s (x * 4) h l, narrow_blue b (g + 256 * r + 65536 * a) w hb (omega arith), narrow_green b g (r + 256 * a) w hb hg (omega arith), narrow_red (b + 256 * g) r a w (omega arith) hr (omega arith))
    (narrow_sum a r g b ha)

-- a pixel of RGB565 by its word
module _ (s : List ℕ) (i : ℕ) (h : Row s) where
  whole : two s i % 256 ^ 2 ≡ two s i
  unfolding two
  whole = omega (arith, h i, h (i + 1))

  low_byte : get_or s i 0 ≡ byte_of (two s i) 0
  unfolding two byte_of
  low_byte = omega (arith, h i, h (i + 1))

  high_byte : get_or s (i + 1) 0 ≡ byte_of (two s i) 1
  unfolding two byte_of
  high_byte = omega (arith, h i, h (i + 1))

  each : (k : ℕ) → k < 2 → get_or s (i + k) 0 ≡ byte_of (two s i) k
  each k z =
      under_or k 1
      (λ q. let e : k ≡ 0 = omega arith in let o : i + 0 ≡ i = omega arith in rw (e, o) low_byte)
      (λ q. let e : k ≡ 1 = omega arith in rw e high_byte)

  loaded_565 : i + 2 ≤ length s → load_pixel Rgb565 s i ≡ unpacked (layout_of Rgb565) (two s i)
  unfolding load_pixel
  loaded_565 l = ap (unpacked (layout_of Rgb565)) (pixel_bytes 2 i (two s i) s l each ∙ whole)

low_part : (l h : ℕ) → l < 256 → (l + h * 256) % 256 ≡ l
low_part l h k = omega arith

high_part : (l h : ℕ) → l < 256 → (l + h * 256) / 256 ≡ h
high_part l h k = omega arith

widen_low : (v : ℕ) → v % 32 * 8 + v / 4 % 8 ≡ v % 32 * 8 + v % 32 / 4
widen_low v = omega arith

five_small : (c : ℕ) → c < 32 → c * 8 + c / 4 < 256
five_small c h = omega arith

widen_blue : (v : ℕ) → (v % 32 * 8 + v / 4 % 8 + (v / 32 % 64 * 4 + v / 512 % 4) * 256) % 256 ≡ widened 5 (v / 2 ^ 0 % 2 ^ 5)
unfolding widened
widen_blue v =
    let z : v / 1 ≡ v = omega arith in
    rw (widen_low v, z) (low_part (v % 32 * 8 + v % 32 / 4) (v / 32 % 64 * 4 + v / 512 % 4) (five_small (v % 32) (omega arith)))

widen_green : (v : ℕ) → (v % 32 * 8 + v / 4 % 8 + (v / 32 % 64 * 4 + v / 512 % 4) * 256) / 256 ≡ widened 6 (v / 2 ^ 5 % 2 ^ 6)
unfolding widened
widen_green v =
    let q : v / 512 % 4 ≡ v / 32 % 64 / 16 = omega arith in
    rw (widen_low v, q) (high_part (v % 32 * 8 + v % 32 / 4) (v / 32 % 64 * 4 + v / 32 % 64 / 16) (five_small (v % 32) (omega arith)))

widen_red : (v : ℕ) → v ≤ 65535 → (v / 2048 * 8 + v / 8192 + 65280) % 256 ≡ widened 5 (v / 2 ^ (6 + 5) % 2 ^ 5)
unfolding widened
widen_red v h =
    let q : v / 8192 ≡ v / 2048 / 4 = omega arith in
    let m : v / 2048 % 32 ≡ v / 2048 = omega arith in
    rw (q, m) (low_part (v / 2048 * 8 + v / 2048 / 4) 255 (five_small (v / 2048) (omega arith)))

widen_alpha : (v : ℕ) → v ≤ 65535 → (v / 2048 * 8 + v / 8192 + 65280) / 256 ≡ 255
widen_alpha v h =
    let q : v / 8192 ≡ v / 2048 / 4 = omega arith in
    rw q (high_part (v / 2048 * 8 + v / 2048 / 4) 255 (five_small (v / 2048) (omega arith)))

-- its two words, widened, are the bytes of its colour
module _ (s e f : List ℕ) (x v : ℕ) (in-s : Row s) (long : x * 2 + 2 ≤ length s) (is : v ≡ two s (x * 2)) (small : v ≤ 65535)
    (b : get_or e (x * 4) 0 ≡ (v % 32 * 8 + v / 4 % 8 + (v / 32 % 64 * 4 + v / 512 % 4) * 256) % 256)
    (g : get_or e (x * 4 + 1) 0 ≡ (v % 32 * 8 + v / 4 % 8 + (v / 32 % 64 * 4 + v / 512 % 4) * 256) / 256)
    (r : get_or f (x * 4 + 2) 0 ≡ (v / 2048 * 8 + v / 8192 + 65280) % 256)
    (a : get_or f (x * 4 + 2 + 1) 0 ≡ (v / 2048 * 8 + v / 8192 + 65280) / 256)
    (kept : (j : ℕ) → j < x * 4 + 2 → get_or f j 0 ≡ get_or e j 0) where
  blue-is : get_or f (x * 4) 0 ≡ widened 5 (v / 2 ^ 0 % 2 ^ 5)
  blue-is = kept (x * 4) (omega arith) ∙ (b ∙ widen_blue v)

  green-is : get_or f (x * 4 + 1) 0 ≡ widened 6 (v / 2 ^ 5 % 2 ^ 6)
  green-is = kept (x * 4 + 1) (omega arith) ∙ (g ∙ widen_green v)

  red-is : get_or f (x * 4 + 2) 0 ≡ widened 5 (v / 2 ^ (6 + 5) % 2 ^ 5)
  red-is = r ∙ widen_red v small

  alpha-is : get_or f (x * 4 + 3) 0 ≡ 255
  alpha-is = let i : x * 4 + 2 + 1 ≡ x * 4 + 3 = omega arith in ap (λ (n : ℕ). get_or f n 0) (sym i) ∙ (a ∙ widen_alpha v small)

  by_channels : unpacked (layout_of Rgb565) v ≡ bytes_at f (x * 4)
  unfolding unpacked
  by_channels = rw (blue-is, green-is, red-is, alpha-is)

  pub widen_is : Row f → (k : ℕ) → k < 4 → get_or f (x * 4 + k) 0 ≡ byte_of (packed (layout_of Argb8888) (load_pixel Rgb565 s (x * 2))) k
  widen_is in_f k l =
      four_bytes (bytes_at f (x * 4)) (all-bytes f (x * 4) in_f) f (x * 4) refl refl refl refl k l
      ∙ ap (λ (c : Colour). byte_of (packed (layout_of Argb8888) c) k) (sym (loaded_565 s (x * 2) in-s long ∙ (ap (unpacked (layout_of Rgb565)) (sym is) ∙ by_channels)))
