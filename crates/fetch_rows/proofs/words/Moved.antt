-- The ARGB8888 pixel at an address is the word there.
use mathlib.Core.Path.{◌≡◌, refl, sym, ap, ◌∙◌}
use mathlib.Core.List.{List, ◌∷◌}
use Prim.Native.Nat.{ℕ, zero, suc, ◌+◌, ◌-◌, ◌^◌, ◌≤◌, ◌<◌}
use native.Mathlib.Omega.{arith}
use lib.ListN.{length, get_or, take, drop}
use lib.Seq.{drop-cons}
use Rattle.word.specs.Word.{byte_of, le32_at, le_bytes}
use Rattle.word.specs.Splice.{spliced}
use Rattle.word.proofs.Splice.{length-spliced, spliced-before, spliced_in, spliced-past}
use Rattle.pixel.specs.Formats.{layout_of}
use Rattle.pixel.specs.Colours.{packed, unpacked}
use Rattle.pixel.specs.declared.format.Format.TheVariants.{Argb8888}
use Rattle.pixel.proofs.Stored.{stored_same}
use Rattle.surface.specs.Memory.{overwrite_range, little_endian, pixel_at}
use Rattle.surface.specs.Drawn.{load_pixel, store_pixel}
use Rattle.surface.proofs.Mapi.{is-mapi}
use Rattle.surface.proofs.Parts.{Side, before, inside, past, side, within-before, within_in, within-past}
use Rattle.row_pixels.specs.Row.{word_colour}

-- ---- loaded

byte-first : (xs : List ℕ) (i k : ℕ) → k ≡ i + 1 → i < length xs → drop i xs ≡ get_or xs i 0 ∷ drop k xs
byte-first xs i k e h =
    let next : suc i ≡ k = omega arith in
    drop-cons xs i 0 h ∙ ap (λ (n : ℕ). get_or xs i 0 ∷ drop n xs) next

four-first : (xs : List ℕ) (i : ℕ) → i + 4 ≤ length xs →
    drop i xs ≡ get_or xs i 0 ∷ get_or xs (i + 1) 0 ∷ get_or xs (i + 2) 0 ∷ get_or xs (i + 3) 0 ∷ drop (i + 4) xs
four-first xs i h =
    byte-first xs i (i + 1) refl (omega arith)
    ∙ ap (λ (r : List ℕ). get_or xs i 0 ∷ r) (byte-first xs (i + 1) (i + 2) (omega arith) (omega arith))
    ∙ ap (λ (r : List ℕ). get_or xs i 0 ∷ get_or xs (i + 1) 0 ∷ r) (byte-first xs (i + 2) (i + 3) (omega arith) (omega arith))
    ∙ ap (λ (r : List ℕ). get_or xs i 0 ∷ get_or xs (i + 1) 0 ∷ get_or xs (i + 2) 0 ∷ r) (byte-first xs (i + 3) (i + 4) (omega arith) (omega arith))

pixel_word : (memory : List ℕ) (i : ℕ) → i + 4 ≤ length memory → pixel_at 4 memory i ≡ le32_at memory i
unfolding pixel_at le32_at
pixel_word memory i h = ap (λ (xs : List ℕ). little_endian (take 4 xs)) (four-first memory i h) ∙ omega arith

pub word_loaded : (memory : List ℕ) (i : ℕ) → i + 4 ≤ length memory → word_colour (le32_at memory i) ≡ load_pixel Argb8888 memory i
unfolding load_pixel
word_loaded memory i h = ap (unpacked (layout_of Argb8888)) (sym (pixel_word memory i h))

-- ---- stored

byte_at : (word k : ℕ) → k < 4 → get_or (le_bytes word) k 0 ≡ byte_of word k
unfolding le_bytes
byte_at word zero h = refl
byte_at word (suc zero) h = refl
byte_at word (suc (suc zero)) h = refl
byte_at word (suc (suc (suc zero))) h = refl
byte_at word (suc (suc (suc (suc k)))) h = omega arith

four_bytes : (word : ℕ) → length (le_bytes word) ≡ 4
unfolding le_bytes
four_bytes word = refl

pub word_stored : (row : List ℕ) (at word : ℕ) → at + 4 ≤ length row → word < 2 ^ 32 →
    spliced at (le_bytes word) row ≡ store_pixel Argb8888 row at (word_colour word)
unfolding store_pixel
word_stored row at word h small = is-mapi _ row (spliced at bytes row) (length-spliced at bytes row fits) (λ i l. byte i (side at 4 i))
  where
    bytes : List ℕ
    bytes = le_bytes word

    four : length bytes ≡ 4
    four = four_bytes word

    fits : at + length bytes ≤ length row
    fits = omega (arith, four)

    p : ℕ → ℕ → ℕ
    p k old = byte_of (packed (layout_of Argb8888) (word_colour word)) k

    byte : (i : ℕ) → Side at 4 i → get_or (spliced at bytes row) i 0 ≡ overwrite_range at 4 p i (get_or row i 0)
    byte i (before u) = spliced-before at bytes row fits i u ∙ sym (within-before at 4 p i (get_or row i 0) u)
    byte i (inside u v) =
        spliced_in at bytes row fits i u (omega (arith, four))
        ∙ byte_at word (i - at) (omega arith)
        ∙ ap (λ (w : ℕ). byte_of w (i - at)) (sym (stored_same Argb8888 word small))
        ∙ sym (within_in at 4 p i (get_or row i 0) u v)
    byte i (past v) = spliced-past at bytes row fits i (omega (arith, four)) ∙ sym (within-past at 4 p i (get_or row i 0) v)
