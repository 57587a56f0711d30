-- Laws of stored pixels: the number that bytes hold, pixels that are as they were, pixels of a part, and the bytes of a row.
use mathlib.Core.Path.{◌≡◌, sym, ap, ◌∙◌}
use mathlib.Core.List.{List}
use Prim.Native.Nat.{ℕ, zero, suc, ◌+◌, ◌-◌, ◌*◌, ◌/◌, ◌%◌, ◌≤◌, ◌<◌}
use native.Mathlib.Nat.{add_assoc, div-lt_iff_lt-mul, mod-lt, div-add-mod', not-suc-le-zero}
use native.Mathlib.Omega.{arith}
use lib.ListN.{length, length-take, length-drop, get_or, take, drop}
use lib.Seq.{drop-cons, ext_get_or, get_or-take, get_or-drop}
use borrow.Rule.Slice.PartMut.{mid_of}
use Rattle.word.specs.Word.{byte_of}
use Rattle.surface.specs.Memory.{mapi, overwrite_range, little_endian, pixel_at}
use Rattle.surface.specs.Rows.{overwrite_rows, row_byte}
use Rattle.surface.proofs.Mapi.{mapi_ext}
use Rattle.surface.proofs.Parts.{Side, before, inside, past, side, within-before, within_in, within-past, all-within}
use Rattle.surface.proofs.Rows.{rows_before, rows_hit, rows-later}

-- ---- the number that bytes hold

-- one byte more, from the highest down
pub number_step : (xs : List ℕ) (k : ℕ) → 0 < k → k ≤ length xs → little_endian (drop (k - 1) xs) ≡ get_or xs (k - 1) 0 + 256 * little_endian (drop k xs)
number_step xs zero z h = absurd (not-suc-le-zero z)
number_step xs (suc j) z h =
    let e : suc j - 1 ≡ j = omega arith in
    rw e (ap little_endian (drop-cons xs j 0 h))

-- the part that was lent to read a pixel holds that pixel
pub pixel_part : (b k i j : ℕ) (xs : List ℕ) → k ≡ b → i ≡ j → little_endian (mid_of i k xs) ≡ pixel_at b xs j
unfolding pixel_at
pixel_part b k i j xs e q = rw (e, q)

-- a pixel of a part of memory
pub pixel_shift : (b d k i : ℕ) (xs : List ℕ) → i + b ≤ k → pixel_at b (mid_of d k xs) i ≡ pixel_at b xs (d + i)
unfolding pixel_at
pixel_shift b d k i xs h =
    ap little_endian
    (ext_get_or 0 (take b (drop i (take k (drop d xs)))) (take b (drop (d + i) xs))
    (simp (length-take, length-drop) (omega arith))
    (λ j l.
    let z : j < b = omega (arith, length-take b (drop i (take k (drop d xs)))) in
    let z' : i + j < k = omega arith in
    get_or-take b (drop i (take k (drop d xs))) j 0 z
    ∙ get_or-drop i (take k (drop d xs)) j 0
    ∙ get_or-take k (drop d xs) (i + j) 0 z'
    ∙ get_or-drop d xs (i + j) 0
    ∙ sym (get_or-take b (drop (d + i) xs) j 0 z ∙ get_or-drop (d + i) xs j 0 ∙ ap (λ (m : ℕ). get_or xs m 0) (add_assoc d i j))))

-- ---- a pixel that is as it was

-- a pixel is the same where its bytes are
pub pixel_same : (b i : ℕ) (xs ys : List ℕ) → length xs ≡ length ys → ((k : ℕ) → k < b → get_or xs (i + k) 0 ≡ get_or ys (i + k) 0) →
    pixel_at b xs i ≡ pixel_at b ys i
unfolding pixel_at
pixel_same b i xs ys e h =
    ap little_endian
    (ext_get_or 0 (take b (drop i xs)) (take b (drop i ys))
    (simp (length-take, length-drop, e))
    (λ k l. let z : k < b = omega (arith, length-take b (drop i xs)) in rw (get_or-take b (drop i xs) k 0 z, get_or-take b (drop i ys) k 0 z, get_or-drop, get_or-drop) (h k z)))

-- ---- a row of pixels

-- a row's bytes go by its own pixels alone
pub row_byte_ext : (b w : ℕ) (p q : ℕ → ℕ) (j : ℕ) → 0 < b → j < w * b → ((x : ℕ) → x < w → p x ≡ q x) → row_byte b p j ≡ row_byte b q j
unfolding row_byte
row_byte_ext b w p q j z l h = ap (λ (v : ℕ). byte_of v (j % b)) (h (j / b) ((div-lt_iff_lt-mul z).1 l))

-- w pixels of b bytes each from r on, drawn one by one, are a row: each pixel is a row of its own, b bytes long
pub row_pixels : (r b w : ℕ) (p : ℕ → ℕ) (xs : List ℕ) → 0 < b →
    mapi (overwrite_rows r b b w (λ x k. byte_of (p x) k)) xs ≡ mapi (overwrite_range r (w * b) (λ j o. row_byte b p j)) xs
unfolding row_byte
row_pixels r b w p xs z = mapi_ext _ _ xs (λ i l. at i (get_or xs i 0) (side r (w * b) i))
  where
    at : (i old : ℕ) → Side r (w * b) i → overwrite_rows r b b w (λ x k. byte_of (p x) k) i old ≡ overwrite_range r (w * b) (λ j o. byte_of (p (j / b)) (j % b)) i old
    at i old (before u) = rows_before r b b w _ old i u ∙ sym (within-before r (w * b) _ i old u)
    at i old (inside u v) =
        let q : (i - r) / b < w = (div-lt_iff_lt-mul z).1 (omega arith) in
        let m : (i - r) % b < b = mod-lt (i - r) z in
        rows_hit r b b w _ old i ((i - r) / b) ((i - r) % b) (omega (arith, div-add-mod' (i - r) b)) m q m
        ∙ sym (within_in r (w * b) (λ j o. byte_of (p (j / b)) (j % b)) i old u v)
    at i old (past v) = rows-later r b b w _ i old z v ∙ sym (within-past r (w * b) _ i old v)

-- the same of a row that was lent
pub all_pixels : (b w : ℕ) (p : ℕ → ℕ) (xs : List ℕ) → 0 < b → length xs ≡ w * b →
    mapi (overwrite_rows 0 b b w (λ x k. byte_of (p x) k)) xs ≡ mapi (λ j o. row_byte b p j) xs
all_pixels b w p xs z e = row_pixels 0 b w p xs z ∙ all-within _ xs (w * b) (omega arith)
