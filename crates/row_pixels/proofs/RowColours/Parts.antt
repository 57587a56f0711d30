-- A buffer whose first pixels were lent and came back, and the colours of a row.
use mathlib.Core.Path.{◌≡◌, refl, sym, ap, ◌∙◌}
use mathlib.Core.List.{List}
use Prim.Native.Nat.{ℕ, ◌+◌, ◌-◌, ◌*◌, ◌/◌, ◌%◌, ◌^◌, ◌≤◌, ◌<◌, min}
use native.Mathlib.Nat.{mod-lt}
use native.Mathlib.Omega.{arith}
use lib.ListN.{length, get_or}
use lib.Pow.{pow_pos}
use borrow.Rule.Slice.PartMut.{mid_of, put_mid}
use Rattle.word.specs.Word.{byte_of}
use Rattle.pixel.specs.Blending.{blended_channel, blended}
use Rattle.pixel.specs.Colours.{widened, packed, unpacked}
use Rattle.pixel.specs.Formats.{bytes_per_pixel, layout_of}
use Rattle.pixel.specs.declared.colour.Colour.{Colour}
use Rattle.pixel.specs.declared.format.Format.{Format}
use Rattle.pixel.specs.declared.format.Format.TheVariants.{Argb8888, Rgb888, Rgb565}
use Rattle.pixel.proofs.Channels.{widened_small}
use Rattle.pixel.proofs.Stored.{Bytes}
use Rattle.surface.specs.Drawn.{load_pixel}
use Rattle.surface.specs.Rows.{row_byte}
use Rattle.surface.proofs.Mapi.{length-mapi, get_or-mapi}
use Rattle.surface.proofs.Parts.{length_mid, mid_put}
use Rattle.surface.proofs.Rows.{next}
use Rattle.surface.proofs.Loaded.{loaded_bytes, loaded_shift}
use Rattle.register.specs.declared.task.Alpha.{Alpha}
use Rattle.register.specs.declared.task.Blending.{Blending}
use Rattle.row_pixels.specs.Row.{colour_in, HoldsColours, row_stored}
use Rattle.row_pixels.specs.Composite.{composite}
use Rattle.pixel.proofs.Kept.{word-colour}
use Rattle.lanes.specs.Lanes.{Done}
use Rattle.row_pixels.proofs.RowColours.Colours.{Row, colour-is, row_is}

-- ---- a part

-- a pixel of the part that came back; n is the part's length as the borrow checker says it
pub lent_colour : (buffer last : List ℕ) (n x : ℕ) → n ≤ length buffer → length last ≡ n → x * 4 + 4 ≤ n →
    colour_in (put_mid 0 n buffer last) x ≡ colour_in last x
lent_colour buffer last n x l e h =
    let z : x * 4 ≡ 0 + x * 4 = omega arith in
    ap (load_pixel Argb8888 (put_mid 0 n buffer last)) z
    ∙ (sym (loaded_shift Argb8888 0 n (x * 4) (put_mid 0 n buffer last) h) ∙ ap (λ (m : List ℕ). load_pixel Argb8888 m (x * 4)) (mid_put 0 n buffer last (omega arith) e))

-- a pixel of the part before it was lent
pub part_colour : (buffer : List ℕ) (n x : ℕ) → x * 4 + 4 ≤ n → colour_in (mid_of 0 n buffer) x ≡ colour_in buffer x
part_colour buffer n x h = let z : 0 + x * 4 ≡ x * 4 = omega arith in loaded_shift Argb8888 0 n (x * 4) buffer h ∙ ap (load_pixel Argb8888 buffer) z

-- ---- colours that are bytes

channel-small : (w n : ℕ) → 4 ≤ w → w ≤ 8 → widened w (n % 2 ^ w) < 256
channel-small w n s m = widened_small w s m (n % 2 ^ w) (mod-lt n (pow_pos w))

pub unpacked-small : (f : Format) (n : ℕ) → Bytes (unpacked (layout_of f) n)
unfolding unpacked
unpacked-small Argb8888 n = record {
  alpha = channel-small 8 _ (omega arith) (omega arith);
  red = channel-small 8 _ (omega arith) (omega arith);
  green = channel-small 8 _ (omega arith) (omega arith);
  blue = channel-small 8 _ (omega arith) (omega arith);
}
unpacked-small Rgb888 n = record {
  alpha = omega arith;
  red = channel-small 8 _ (omega arith) (omega arith);
  green = channel-small 8 _ (omega arith) (omega arith);
  blue = channel-small 8 _ (omega arith) (omega arith);
}
unpacked-small Rgb565 n = record {
  alpha = omega arith;
  red = channel-small 5 _ (omega arith) (omega arith);
  green = channel-small 6 _ (omega arith) (omega arith);
  blue = channel-small 5 _ (omega arith) (omega arith);
}

loaded_small : (f : Format) (memory : List ℕ) (i : ℕ) → Bytes (load_pixel f memory i)
unfolding load_pixel
loaded_small f memory i = unpacked-small f _

held : (n : ℕ) → min 255 n < 256
held n = omega arith

pub mixed-small : (blending : Blending) (source destination : Alpha) (s d : Colour) → Bytes (composite blending source destination s d)
unfolding composite blended blended_channel
mixed-small blending source destination s d = record { alpha = held _; red = held _; green = held _; blue = held _ }

-- ---- a row of colours

-- a pixel of a row that was stored
pub row-colour : (p : ℕ → Colour) (row : List ℕ) (x : ℕ) → x * 4 + 4 ≤ length row → Bytes (p x) → colour_in (row_stored Argb8888 p row) x ≡ p x
unfolding row_stored row_byte
row-colour p row x l small =
    loaded_bytes Argb8888 (row_stored Argb8888 p row) (x * 4) (p x) (omega (arith, length-mapi (λ (j old : ℕ). byte_of (packed (layout_of Argb8888) (p (j / 4))) (j % 4)) row))
    (λ k z.
    let d : (x * 4 + k) / 4 ≡ x = omega arith in
    let r : (x * 4 + k) % 4 ≡ k = omega arith in
    get_or-mapi _ row (x * 4 + k) (omega arith) ∙ rw (d, r))
    ∙ word-colour (p x) small

-- a part that came back as a row of colours
pub holds_part : (p : ℕ → Colour) (buffer last : List ℕ) (width n : ℕ) → n ≡ width * 4 → width * 4 ≤ length buffer → length last ≡ n →
    ((x : ℕ) → Bytes (p x)) → last ≡ row_stored Argb8888 p (mid_of 0 n buffer) → HoldsColours (put_mid 0 n buffer last) width p
holds_part p buffer last width n e fits long small h x l =
    lent_colour buffer last n x (omega arith) long (omega arith)
    ∙ (ap (λ (m : List ℕ). colour_in m x) h ∙ row-colour p (mid_of 0 n buffer) x (omega (arith, length_mid 0 n buffer (omega arith))) (small x))

-- a part that came back as the colours of a part of memory
pub part_fetched : (f : Format) (memory buffer last : List ℕ) (start width k n : ℕ) → k ≡ width * bytes_per_pixel f → n ≡ width * 4 → width * 4 ≤ length buffer → length last ≡ n →
    last ≡ row_stored Argb8888 (λ x. load_pixel f (mid_of start k memory) (x * bytes_per_pixel f)) (mid_of 0 n buffer) →
    HoldsColours (put_mid 0 n buffer last) width (λ x. load_pixel f memory (start + x * bytes_per_pixel f))
part_fetched f memory buffer last start width k n ek en fits long h x l =
    holds_part _ buffer last width n en fits long (λ x. loaded_small f (mid_of start k memory) (x * bytes_per_pixel f)) h x l
    ∙ loaded_shift f start k (x * bytes_per_pixel f) memory (omega (arith, next x width (bytes_per_pixel f) l))

-- a row that was copied from a buffer
pub copied-row : (s d e : List ℕ) (width : ℕ) → Row s → Row d → Row e → width * 4 ≤ length s → length d ≡ width * 4 → length e ≡ length d →
    Done (λ j. get_or s j 0) d e 0 (length d) → e ≡ row_stored Argb8888 (colour_in s) d
copied-row s d e width in-s in-d in_e room long same did =
    row_is d e width in-d in_e (omega arith) (omega arith) (colour_in s) same long
    (λ x l.
    let a = did.done (x * 4 + 3) (omega arith) (omega arith) in
    let r = did.done (x * 4 + 2) (omega arith) (omega arith) in
    let g = did.done (x * 4 + 1) (omega arith) (omega arith) in
    let b = did.done (x * 4) (omega arith) (omega arith) in
    colour-is e (x * 4) in_e (omega arith) ∙ ((rw (a, r, g, b)) ∙ sym (colour-is s (x * 4) in-s (omega arith))))
