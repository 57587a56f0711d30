-- A pixel's bytes are those of its colour, packed: so a row of them that was copied is the row of its colours, stored.
use mathlib.Core.Path.{◌≡◌, sym, ap, ◌∙◌}
use mathlib.Core.List.{List, [], ◌∷◌}
use Prim.Native.Nat.{ℕ, zero, suc, ◌+◌, ◌-◌, ◌*◌, ◌/◌, ◌%◌, ◌^◌, ◌≤◌, ◌<◌}
use native.Mathlib.Omega.{arith}
use native.Mathlib.Nat.{not-suc-le-zero, pow-suc}
use lib.ListN.{length, get_or}
use borrow.Rule.Slice.PartMut.{mid_of, put_mid}
use Rattle.word.specs.Word.{byte_of}
use Rattle.pixel.specs.Formats.{bytes_per_pixel, layout_of}
use Rattle.pixel.specs.Colours.{packed}
use Rattle.pixel.specs.declared.format.Format.{Format}
use Rattle.pixel.specs.declared.format.Format.TheVariants.{Argb8888, Rgb888, Rgb565}
use Rattle.pixel.proofs.Stored.{stored_same}
use Rattle.surface.specs.Memory.{mapi, overwrite_range, little_endian, pixel_at}
use Rattle.surface.specs.Rows.{row_byte}
use Rattle.surface.specs.Drawn.{load_pixel}
use Rattle.surface.proofs.Mapi.{is-mapi}
use Rattle.surface.proofs.Parts.{Side, before, inside, past, side, within-before, within_in, within-past, length_mid, get_or_mid, mid_put}
use Rattle.surface.proofs.Rows.{next}
use Rattle.surface.proofs.Loaded.{byte-lowest, byte_next, loaded_same, loaded_shift}
use Rattle.row_pixels.specs.Row.{row_stored}
use Rattle.lanes.specs.Lanes.{Done}
use Rattle.unblended_rows.specs.Held.{HoldsPixels}
use Rattle.lanes.specs.Apart.{moved_byte}

-- ---- the number that bytes hold

abbrev AreBytes : List ℕ → Type 0
AreBytes xs = (k : ℕ) → k < length xs → get_or xs k 0 < 256

number_small : (xs : List ℕ) → AreBytes xs → little_endian xs < 256 ^ length xs
number_small [] h = omega arith
number_small (x ∷ xs) h =
    rw (pow-suc 256 (length xs)) (omega (arith, h 0 (omega arith), number_small xs (λ k l. h (suc k) (omega arith))))

number-byte : (xs : List ℕ) (k : ℕ) → AreBytes xs → k < length xs → byte_of (little_endian xs) k ≡ get_or xs k 0
number-byte [] k h l = absurd (not-suc-le-zero l)
number-byte (x ∷ xs) zero h l = byte-lowest (little_endian (x ∷ xs)) ∙ omega (arith, h 0 (omega arith))
number-byte (x ∷ xs) (suc k) h l =
    let rest : little_endian (x ∷ xs) / 256 ≡ little_endian xs = omega (arith, h 0 (omega arith)) in
    byte_next (little_endian (x ∷ xs)) k ∙ ap (λ (n : ℕ). byte_of n k) rest ∙ number-byte xs k (λ j z. h (suc j) (omega arith)) (omega arith)

-- ---- one pixel

-- byte k of the pixel at address i
pixel_byte_lem : (f : Format) (s : List ℕ) (i k : ℕ) → ((j : ℕ) → j < length s → get_or s j 0 < 256) → k < bytes_per_pixel f → i + bytes_per_pixel f ≤ length s →
    byte_of (packed (layout_of f) (load_pixel f s i)) k ≡ get_or s (i + k) 0
unfolding load_pixel pixel_at
pixel_byte_lem f s i k h u l =
    let b = bytes_per_pixel f in
    let xs = mid_of i b s in
    let long : length xs ≡ b = length_mid i b s l in
    let bytes : AreBytes xs = λ j z. let v : j < b = omega arith in rw (get_or_mid i b s j v) (h (i + j) (omega arith)) in
    let small : little_endian xs < 256 ^ b = rw long at (number_small xs bytes) in
    ap (λ (n : ℕ). byte_of n k) (stored_same f (little_endian xs) small) ∙ number-byte xs k bytes (omega arith) ∙ get_or_mid i b s k u

-- byte j of a row of such pixels
row-byte : (f : Format) (s : List ℕ) (width j : ℕ) → ((j : ℕ) → j < length s → get_or s j 0 < 256) → width * bytes_per_pixel f ≤ length s → j < width * bytes_per_pixel f →
    row_byte (bytes_per_pixel f) (λ (x : ℕ). packed (layout_of f) (load_pixel f s (x * bytes_per_pixel f))) j ≡ get_or s j 0
unfolding row_byte
row-byte Argb8888 s width j h room l = pixel_byte_lem Argb8888 s (j / 4 * 4) (j % 4) h (omega arith) (omega arith) ∙ ap (λ (n : ℕ). get_or s n 0) (omega arith)
row-byte Rgb888 s width j h room l = pixel_byte_lem Rgb888 s (j / 3 * 3) (j % 3) h (omega arith) (omega arith) ∙ ap (λ (n : ℕ). get_or s n 0) (omega arith)
row-byte Rgb565 s width j h room l = pixel_byte_lem Rgb565 s (j / 2 * 2) (j % 2) h (omega arith) (omega arith) ∙ ap (λ (n : ℕ). get_or s n 0) (omega arith)

-- ---- rows

-- a buffer for a row of four bytes a pixel has room for a row of any format
pub narrower : (f : Format) (width n : ℕ) → width * 4 ≤ n → width * bytes_per_pixel f ≤ n
narrower Argb8888 width n h = h
narrower Rgb888 width n h = omega arith
narrower Rgb565 width n h = omega arith

-- a row that was copied from a buffer
pub row_copied : (f : Format) (s d e : List ℕ) (width : ℕ) → ((j : ℕ) → get_or s j 0 < 256) → width * bytes_per_pixel f ≤ length s →
    length d ≡ width * bytes_per_pixel f → length e ≡ length d → Done (λ j. get_or s j 0) d e 0 (length d) →
    e ≡ row_stored f (λ x. load_pixel f s (x * bytes_per_pixel f)) d
unfolding row_stored
row_copied f s d e width h room long same did =
    is-mapi _ d e same (λ j l. did.done j (omega arith) l ∙ sym (row-byte f s width j (λ k u. h k) room (omega arith)))

-- a buffer whose first bytes were copied from memory; n is their number as the borrow checker says it
pub pixels_copied : (f : Format) (memory buffer last : List ℕ) (start width n k : ℕ) → n ≡ width * bytes_per_pixel f → k ≡ n → n ≤ length buffer → start + k ≤ length memory →
    length last ≡ n → Done (λ j. get_or (mid_of start k memory) j 0) (mid_of 0 n buffer) last 0 (length (mid_of 0 n buffer)) →
    HoldsPixels f (put_mid 0 n buffer last) width (λ x. load_pixel f memory (start + x * bytes_per_pixel f))
pixels_copied f memory buffer last start width n k en ek fits in_memory long did x l =
    let i : ℕ = x * bytes_per_pixel f in
    let z : i ≡ 0 + i = omega arith in
    let h : i + bytes_per_pixel f ≤ n = omega (arith, next x width (bytes_per_pixel f) l) in
    let own : length (mid_of 0 n buffer) ≡ n = length_mid 0 n buffer (omega arith) in
    ap (load_pixel f (put_mid 0 n buffer last)) z
    ∙ (sym (loaded_shift f 0 n i (put_mid 0 n buffer last) h)
    ∙ (ap (λ (m : List ℕ). load_pixel f m i) (mid_put 0 n buffer last (omega arith) long)
    ∙ (loaded_same f i last (mid_of start k memory) (long ∙ sym ek ∙ sym (length_mid start k memory in_memory)) (λ j u. did.done (i + j) (omega arith) (omega arith))
    ∙ loaded_shift f start k i memory (omega arith))))

-- ---- rows copied within memory

-- byte j of a row of such pixels, the first of them at an address
row-byte-from : (f : Format) (s : List ℕ) (start width j : ℕ) → ((j : ℕ) → j < length s → get_or s j 0 < 256) → start + width * bytes_per_pixel f ≤ length s → j < width * bytes_per_pixel f →
    row_byte (bytes_per_pixel f) (λ (x : ℕ). packed (layout_of f) (load_pixel f s (start + x * bytes_per_pixel f))) j ≡ get_or s (start + j) 0
unfolding row_byte
row-byte-from Argb8888 s start width j h room l = pixel_byte_lem Argb8888 s (start + j / 4 * 4) (j % 4) h (omega arith) (omega arith) ∙ ap (λ (n : ℕ). get_or s n 0) (omega arith)
row-byte-from Rgb888 s start width j h room l = pixel_byte_lem Rgb888 s (start + j / 3 * 3) (j % 3) h (omega arith) (omega arith) ∙ ap (λ (n : ℕ). get_or s n 0) (omega arith)
row-byte-from Rgb565 s start width j h room l = pixel_byte_lem Rgb565 s (start + j / 2 * 2) (j % 2) h (omega arith) (omega arith) ∙ ap (λ (n : ℕ). get_or s n 0) (omega arith)

-- a row of pixels that was copied within memory is the row of their colours, stored
pub row_moved : (f : Format) (memory e : List ℕ) (to from width : ℕ) → ((j : ℕ) → j < length memory → get_or memory j 0 < 256) → from + width * bytes_per_pixel f ≤ length memory →
    length e ≡ length memory → Done (moved_byte memory to from) memory e to (to + width * bytes_per_pixel f) →
    e
    ≡ mapi
    (overwrite_range to (width * bytes_per_pixel f) (λ (j old : ℕ). row_byte (bytes_per_pixel f) (λ (x : ℕ). packed (layout_of f) (load_pixel f memory (from + x * bytes_per_pixel f))) j))
    memory
row_moved f memory e to from width h room same did = is-mapi _ memory e same (λ i l. byte i (side to (width * bytes_per_pixel f) i))
  where
    p : ℕ → ℕ → ℕ
    p j old = row_byte (bytes_per_pixel f) (λ (x : ℕ). packed (layout_of f) (load_pixel f memory (from + x * bytes_per_pixel f))) j

    byte : (i : ℕ) → Side to (width * bytes_per_pixel f) i → get_or e i 0 ≡ overwrite_range to (width * bytes_per_pixel f) p i (get_or memory i 0)
    byte i (before u) = did.under i u ∙ sym (within-before to (width * bytes_per_pixel f) p i (get_or memory i 0) u)
    byte i (inside u v) =
        did.done i u v
        ∙ (sym (row-byte-from f memory from width (i - to) h room (omega arith)) ∙ sym (within_in to (width * bytes_per_pixel f) p i (get_or memory i 0) u v))
    byte i (past v) = did.past i v ∙ sym (within-past to (width * bytes_per_pixel f) p i (get_or memory i 0) v)
