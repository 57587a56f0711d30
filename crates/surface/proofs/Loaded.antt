-- One pixel stored and loaded, and a pixel of a drawing loaded: it has the colour that its format keeps.
use mathlib.Core.Path.{◌≡◌, sym, ap, ◌∙◌}
use mathlib.Core.List.{List, [], ◌∷◌}
use mathlib.Core.Logic.{◌⊎◌, ⊎_elim, inl, inr}
use Prim.Native.Nat.{ℕ, suc, ◌+◌, ◌-◌, ◌*◌, ◌/◌, ◌%◌, ◌^◌, ◌≤◌, ◌<◌}
use native.Mathlib.Omega.{arith}
use native.Mathlib.Nat.{le_refl, mod-lt, one-le-pow, pow-suc, pow-succ', div-div-eq-div-mul}
use lib.Arith.{mod-mul, digits_div, digits_mod}
use lib.Pow.{pow_pos, pow-add}
use lib.Dec.{lit<}
use lib.ListN.{length, get_or}
use borrow.Rule.Slice.PartMut.{mid_of}
use Rattle.word.specs.Word.{byte_of}
use Rattle.pixel.specs.Formats.{bytes_per_pixel, layout_of}
use Rattle.pixel.specs.Colours.{packed, unpacked}
use Rattle.pixel.specs.declared.colour.Colour.{Colour}
use Rattle.pixel.specs.declared.format.Format.{Format}
use Rattle.pixel.specs.declared.format.Format.TheVariants.{Argb8888, Rgb888, Rgb565}
use Rattle.pixel.proofs.Stored.{packed_again}
use Rattle.surface.specs.declared.Surface.{Surface}
use Rattle.surface.specs.Surface.{row_length, pixel_start, span}
use Rattle.surface.specs.Memory.{mapi, overwrite_range, little_endian, pixel_at}
use Rattle.surface.specs.Rows.{overwrite_rows}
use Rattle.surface.specs.Drawn.{load_pixel, store_pixel, draw_surface}
use Rattle.surface.proofs.Sizes.{bytes-some}
use Rattle.surface.proofs.Mapi.{length-mapi, get_or-mapi, mapi-stays}
use Rattle.surface.proofs.Parts.{within-before, within_in, within-past, get_or_mid, length_mid}
use Rattle.surface.proofs.Rows.{turn_rows}
use Rattle.surface.proofs.Pixels.{pixel_same, pixel_shift}
use Rattle.surface.proofs.Outside.{pixel_in_row, pixel_in_span, inside-row, length_drawn_on}

-- ---- the number that the low bytes of a number hold

-- byte k + 1 of a number is byte k of what is left without its lowest
pub byte_next : (n k : ℕ) → byte_of n (suc k) ≡ byte_of (n / 256) k
unfolding byte_of
byte_next n k = sym (ap (λ (m : ℕ). m % 256) (div-div-eq-div-mul n 256 (256 ^ k)) ∙ ap (λ (m : ℕ). n / m % 256) (sym (pow-succ' 256 k)))

pub byte-lowest : (n : ℕ) → byte_of n 0 ≡ n % 256
unfolding byte_of
byte-lowest n = omega arith

pub number-bytes : (n : ℕ) (xs : List ℕ) → ((k : ℕ) → k < length xs → get_or xs k 0 ≡ byte_of n k) → little_endian xs ≡ n % 256 ^ length xs
number-bytes n [] h = omega arith
number-bytes n (x ∷ xs) h =
    let rest : little_endian xs ≡ n / 256 % 256 ^ length xs = number-bytes (n / 256) xs (λ k l. h (suc k) (omega arith) ∙ byte_next n k) in
    let lowest : x ≡ n % 256 = h 0 (omega arith) ∙ byte-lowest n in
    let all : n % (256 ^ length xs * 256) ≡ n / 256 % 256 ^ length xs * 256 + n % 256 = mod-mul n (one-le-pow (length xs) 256 (lit< tt)) (lit< tt) in
    rw (pow-suc 256 (length xs)) (omega arith)

-- a pixel whose bytes are those of a number
pub pixel_bytes : (b i n : ℕ) (memory : List ℕ) → i + b ≤ length memory → ((k : ℕ) → k < b → get_or memory (i + k) 0 ≡ byte_of n k) →
    pixel_at b memory i ≡ n % 256 ^ b
unfolding pixel_at
pixel_bytes b i n memory l h =
    let e : length (mid_of i b memory) ≡ b = length_mid i b memory l in
    number-bytes n (mid_of i b memory) (λ k z. let u : k < b = omega arith in get_or_mid i b memory k u ∙ h k u) ∙ ap (λ (m : ℕ). n % 256 ^ m) e

-- ---- the colour that a format keeps

-- a channel of w bits above the lowest l goes by the lowest w + l bits of a number
channel-low : (n t w l : ℕ) → n % 2 ^ (t + w + l) / 2 ^ l % 2 ^ w ≡ n / 2 ^ l % 2 ^ w
channel-low n t w l =
    let m : ℕ = n / 2 ^ l in
    let above : n % 2 ^ (t + w + l) ≡ m % 2 ^ (t + w) * 2 ^ l + n % 2 ^ l = ap (λ (k : ℕ). n % k) (pow-add 2 (t + w) l) ∙ mod-mul n (pow_pos (t + w)) (pow_pos l) in
    let below : m % 2 ^ (t + w) ≡ m / 2 ^ w % 2 ^ t * 2 ^ w + m % 2 ^ w = ap (λ (k : ℕ). m % k) (pow-add 2 t w) ∙ mod-mul m (pow_pos t) (pow_pos w) in
    ap (λ (k : ℕ). k / 2 ^ l % 2 ^ w) above
    ∙ ap (λ (k : ℕ). k % 2 ^ w) (digits_div (m % 2 ^ (t + w)) (mod-lt n (pow_pos l)) ∙ below)
    ∙ digits_mod (m / 2 ^ w % 2 ^ t) (mod-lt m (pow_pos w))

-- so a format's channels lie in its bytes
pub unpacked-low : (f : Format) (n : ℕ) → unpacked (layout_of f) (n % 256 ^ bytes_per_pixel f) ≡ unpacked (layout_of f) n
unfolding unpacked
unpacked-low Argb8888 n = rw (channel-low n 0 8 24, channel-low n 8 8 16, channel-low n 16 8 8, channel-low n 24 8 0)
unpacked-low Rgb888 n = rw (channel-low n 0 8 16, channel-low n 8 8 8, channel-low n 16 8 0)
unpacked-low Rgb565 n = rw (channel-low n 0 5 11, channel-low n 5 6 5, channel-low n 11 5 0)

-- the colour of a pixel whose bytes are those of a packed colour
pub loaded_bytes : (f : Format) (memory : List ℕ) (i : ℕ) (c : Colour) → i + bytes_per_pixel f ≤ length memory →
    ((k : ℕ) → k < bytes_per_pixel f → get_or memory (i + k) 0 ≡ byte_of (packed (layout_of f) c) k) →
    load_pixel f memory i ≡ unpacked (layout_of f) (packed (layout_of f) c)
unfolding load_pixel
loaded_bytes f memory i c l h = ap (unpacked (layout_of f)) (pixel_bytes (bytes_per_pixel f) i _ memory l h) ∙ unpacked-low f (packed (layout_of f) c)

-- ---- a pixel loaded

-- it has the same colour where its bytes are the same
pub loaded_same : (f : Format) (i : ℕ) (xs ys : List ℕ) → length xs ≡ length ys →
    ((k : ℕ) → k < bytes_per_pixel f → get_or xs (i + k) 0 ≡ get_or ys (i + k) 0) → load_pixel f xs i ≡ load_pixel f ys i
unfolding load_pixel
loaded_same f i xs ys e h = ap (unpacked (layout_of f)) (pixel_same (bytes_per_pixel f) i xs ys e h)

-- and the same in a window
pub loaded_shift : (f : Format) (d k i : ℕ) (xs : List ℕ) → i + bytes_per_pixel f ≤ k → load_pixel f (mid_of d k xs) i ≡ load_pixel f xs (d + i)
unfolding load_pixel
loaded_shift f d k i xs h = ap (unpacked (layout_of f)) (pixel_shift (bytes_per_pixel f) d k i xs h)

-- stored in its own format and loaded again, it has the same colour
pub loaded_again : (f : Format) (memory : List ℕ) (i : ℕ) → unpacked (layout_of f) (packed (layout_of f) (load_pixel f memory i)) ≡ load_pixel f memory i
unfolding load_pixel
loaded_again f memory i = ap (unpacked (layout_of f)) (packed_again f _) ∙ unpacked-low f _

-- ---- a pixel stored

module _ (f : Format) (memory : List ℕ) (i : ℕ) (c : Colour) where
  pub length_stored : length (store_pixel f memory i c) ≡ length memory
  unfolding store_pixel
  length_stored = length-mapi _ memory

  -- a byte that is not the pixel's is as it was
  pub stored_else : (k : ℕ) → (k < i) ⊎ (i + bytes_per_pixel f ≤ k) → get_or (store_pixel f memory i c) k 0 ≡ get_or memory k 0
  unfolding store_pixel
  stored_else k o =
      mapi-stays _ memory k
      (λ old. ⊎_elim (λ (u : k < i). within-before i (bytes_per_pixel f) _ k old u) (λ (u : i + bytes_per_pixel f ≤ k). within-past i (bytes_per_pixel f) _ k old u) o)

  -- its own are those of the packed colour
  pub stored_byte : i + bytes_per_pixel f ≤ length memory → (k : ℕ) → k < bytes_per_pixel f → get_or (store_pixel f memory i c) (i + k) 0 ≡ byte_of (packed (layout_of f) c) k
  unfolding store_pixel
  stored_byte l k u =
      let e : i + k - i ≡ k = omega arith in
      get_or-mapi _ memory (i + k) (omega arith)
      ∙ within_in i (bytes_per_pixel f) _ (i + k) (get_or memory (i + k) 0) (omega arith) (omega arith)
      ∙ ap (byte_of (packed (layout_of f) c)) e

  -- loaded again it has the colour that the format keeps
  pub loaded_stored : i + bytes_per_pixel f ≤ length memory → load_pixel f (store_pixel f memory i c) i ≡ unpacked (layout_of f) (packed (layout_of f) c)
  loaded_stored l = loaded_bytes f (store_pixel f memory i c) i c (omega (arith, length_stored)) (stored_byte l)

  -- and other pixels, of any format, are as they were
  pub loaded_else : (g : Format) (k : ℕ) → (k + bytes_per_pixel g ≤ i) ⊎ (i + bytes_per_pixel f ≤ k) → load_pixel g (store_pixel f memory i c) k ≡ load_pixel g memory k
  loaded_else g k o =
      loaded_same g k (store_pixel f memory i c) memory length_stored
      (λ j u. stored_else (k + j) (⊎_elim (λ (v : k + bytes_per_pixel g ≤ i). inl (omega arith)) (λ (v : i + bytes_per_pixel f ≤ k). inr (omega arith)) o))

-- a row of pixels stored one by one, from r on: one more. What all w of them make is `row_pixels`
pub more_stored : (f : Format) (p : ℕ → Colour) (r : ℕ) (xs₀ xs ys : List ℕ) (x i : ℕ) (c : Colour) →
    i ≡ r + x * bytes_per_pixel f → c ≡ p x →
    xs ≡ mapi (overwrite_rows r (bytes_per_pixel f) (bytes_per_pixel f) x (λ x k. byte_of (packed (layout_of f) (p x)) k)) xs₀ → ys ≡ store_pixel f xs i c →
    ys ≡ mapi (overwrite_rows r (bytes_per_pixel f) (bytes_per_pixel f) (x + 1) (λ x k. byte_of (packed (layout_of f) (p x)) k)) xs₀
unfolding store_pixel
more_stored f p r xs₀ xs ys x i c e q h m =
    turn_rows r (bytes_per_pixel f) (bytes_per_pixel f) _ xs₀ xs ys x i (bytes-some f) (le_refl (bytes_per_pixel f)) e h
    (m ∙ ap (λ (c : Colour). mapi (overwrite_range i (bytes_per_pixel f) (λ (k old : ℕ). byte_of (packed (layout_of f) c) k)) xs) q)

-- ---- a pixel drawn

-- the pixel (x, y) of a drawing, loaded, has the colour that the format keeps of p x y
pub loaded_drawn : (s : Surface) (p : ℕ → ℕ → Colour) (memory : List ℕ) → row_length s ≤ s.stride → (span s).end ≤ length memory →
    (x y : ℕ) → x < s.width → y < s.height →
    load_pixel s.format (draw_surface s p memory) (pixel_start s x y) ≡ unpacked (layout_of s.format) (packed (layout_of s.format) (p x y))
loaded_drawn s p memory w l x y u v =
    loaded_bytes s.format (draw_surface s p memory) (pixel_start s x y) (p x y) (omega (arith, length_drawn_on s p memory, (pixel_in_span s x y u v).1)) at
  where
    at : (k : ℕ) → k < bytes_per_pixel s.format → get_or (draw_surface s p memory) (pixel_start s x y + k) 0 ≡ byte_of (packed (layout_of s.format) (p x y)) k
    at k z =
        let j : ℕ = x * bytes_per_pixel s.format + k in
        let col : j / bytes_per_pixel s.format ≡ x = digits_div x z in
        let place : j % bytes_per_pixel s.format ≡ k = digits_mod x z in
        inside-row s p memory w (pixel_start s x y + k) y j (omega (arith, (pixel_in_span s x y u v).1))
        (record { row = v; column = omega (arith, pixel_in_row s x u); address = omega arith })
        ∙ rw (col, place)
