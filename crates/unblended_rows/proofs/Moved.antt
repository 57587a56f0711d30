-- A task whose output rows are rows of its source.
use mathlib.Core.Path.{◌≡◌, refl, sym, ap, ◌∙◌}
use mathlib.Core.Bool.{true, false, false≢true}
use mathlib.Core.List.{List}
use mathlib.Core.Logic.{◌⊎◌, inl, inr, ⊎_elim}
use Prim.Native.Nat.{ℕ, ◌+◌, ◌-◌, ◌*◌, ◌≤◌, ◌<◌}
use native.Mathlib.Omega.{arith}
use lib.ListN.{length, get_or}
use borrow.Rule.Slice.PartMut.{mid_of}
use Rattle.word.proofs.Tests.{split}
use Rattle.pixel.specs.Formats.{bytes_per_pixel}
use Rattle.pixel.specs.declared.format.Format.{Format}
use Rattle.surface.specs.Surface.{row_length, row_start, pixel_start, span, DisjointRows}
use Rattle.surface.specs.Drawn.{load_pixel}
use Rattle.surface.specs.declared.Surface.{Surface}
use Rattle.surface.proofs.Outside.{row_in-span}
use Rattle.surface.proofs.Loaded.{loaded_shift}
use Rattle.surface.proofs.Parts.{length_mid, get_or_mid}
use Rattle.surface.proofs.Rows.{next}
use Rattle.lanes.specs.Lanes.{Done}
use Rattle.lanes.specs.Apart.{Apart, moved_byte}
use Rattle.unblended_rows.proofs.row_copy.Bytes.{row_moved}
use Rattle.range.specs.declared.Range.{Range}
use Rattle.range.proofs.Laws.{inside-ends}
use Rattle.transform.specs.declared.Point.{Point}
use Rattle.transform.specs.declared.Size.{Size}
use Rattle.transform.proofs.Inside.{mirrored-below}
use Rattle.register.specs.Task.{is_buffer}
use Rattle.register.specs.declared.task.Source.{Source}
use Rattle.register.specs.declared.task.SourceMode.{SourceMode}
use Rattle.register.specs.declared.task.SourceMode.TheVariants.{Buffer, Colour, GradientX, GradientY}
use Rattle.register.specs.declared.task.Task.{Task}
use Rattle.register.specs.Size.{size_of}
use Rattle.kinds.specs.Kinds.{source_in_window}
use Rattle.raster.proofs.Parts.{MovedTask}
use Rattle.row_pixels.specs.Row.{colour_at, source_pixel_of}
use Rattle.row_pixels.proofs.Straight.{upright_x, upright_y, side_by_side}
use Rattle.raster.specs.Task.{source_mode_colour, source_colour, pixel_colour}
use Rattle.raster.specs.Row.{RowDrawable, row_drawn}
use Rattle.raster.proofs.Pixel.{pixel_plain}
use Rattle.raster.proofs.Place.{starts, ends}

-- a source colour in a buffer
colour_by_buffer : (m : SourceMode) (s : Source) (memory : List ℕ) (p : Point) → is_buffer m ≡ true → source_mode_colour m s memory p ≡ colour_at s.surface memory p
colour_by_buffer Buffer s memory p e = refl
colour_by_buffer Colour s memory p e = absurd (false≢true e)
colour_by_buffer GradientX s memory p e = absurd (false≢true e)
colour_by_buffer GradientY s memory p e = absurd (false≢true e)

pub source_buffer : (s : Source) (memory : List ℕ) (x y : ℕ) → is_buffer s.mode ≡ true →
    source_colour s memory x y ≡ colour_at s.surface memory (source_pixel_of s.surface s.transform x y)
unfolding source_colour
source_buffer s memory x y e = colour_by_buffer s.mode s memory _ e

-- ---- a row of it

-- a row of one surface and a row of another, of which no rows meet
pub rows_apart : (s o : Surface) (from to n v y : ℕ) → DisjointRows s o → v < s.height → y < o.height → from ≡ row_start s v → to ≡ row_start o y →
    n ≤ row_length s → n ≤ row_length o → (from + n ≤ to) ⊎ (to + n ≤ from)
rows_apart s o from to n v y apart lv ly is-from is-to in-s in-o =
    ⊎_elim
    (λ (a : to < from + n).
    ⊎_elim
    (λ (b : from < to + n).
    ⊎_elim
    (λ (c : from < to). absurd (apart to v (to - from) y 0 (record { row = lv; column = omega arith; address = omega arith }) (record { row = ly; column = omega arith; address = omega arith })))
    (λ (c : to ≤ from). absurd (apart from v 0 y (from - to) (record { row = lv; column = omega arith; address = omega arith }) (record { row = ly; column = omega arith; address = omega arith })))
    (split from to))
    (λ (b : to + n ≤ from). inr b)
    (split from (to + n)))
    (λ (a : from + n ≤ to). inl a)
    (split to (from + n))

-- where the two rows lie: both in the window, and apart
pub record Lies (window : Range) (to from n : ℕ) : Type 0 where
  pub start_to : window.start ≤ to
  pub start_from : window.start ≤ from
  pub end_to : to + n ≤ window.end
  pub end_from : from + n ≤ window.end
  pub apart : (from + n ≤ to) ⊎ (to + n ≤ from)

-- the row of the source that output row y is
pub moved_down : {window : Range} {memory : List ℕ} {t : Task} {y : ℕ} → RowDrawable window memory t y → MovedTask t → y < t.source.surface.height
moved_down {window} {memory} {t} {y} r m =
    let size : size_of t.source.surface ≡ size_of t.output = rw m.upright at r.drawable.clear.size in
    omega (arith, ap (λ (z : Size). z.height) size, r.row)

pub moved_lies : {window : Range} {memory : List ℕ} {t : Task} {y : ℕ} → RowDrawable window memory t y → MovedTask t → source_in_window window t ≡ true →
    (to from n : ℕ) → to ≡ row_start t.output y →
    from ≡ pixel_start t.source.surface (source_pixel_of t.source.surface t.source.transform 0 y).x (source_pixel_of t.source.surface t.source.transform 0 y).y →
    n ≡ row_length t.output → Lies window to from n
unfolding span
moved_lies {window} {memory} {t} {y} r m in_window to from n is-to is-from is-n =
    let c = r.drawable.clear in
    let s = t.source.surface in
    let reads = c.source m.buffer in
    let own = inside-ends (span s) window in_window in
    let size : size_of s ≡ size_of t.output = rw m.upright at c.size in
    let w : s.width ≡ t.output.width = ap (λ (z : Size). z.width) size in
    let down : y < s.height = moved_down r m in
    let long : s.width * bytes_per_pixel s.format ≡ t.output.width * bytes_per_pixel t.output.format = rw (w, m.format) in
    let first : (source_pixel_of s t.source.transform 0 y).x ≡ 0 = upright_x s t.source.transform m.upright 0 y ∙ rw m.kept in
    let v : ℕ = (source_pixel_of s t.source.transform 0 y).y in
    let below : v < s.height = rw (upright_y s t.source.transform m.upright 0 y) (mirrored-below t.source.transform.flip.vertical s.height y down) in
    let starts-at : from ≡ row_start s v = is-from ∙ rw first (omega arith) in
    record {
      start_to = omega (arith, starts r);
      start_from = omega (arith, own.0);
      end_to = omega (arith, ends r);
      end_from = omega (arith, row_in-span s v below, own.1, long);
      apart = rows_apart s t.output from to n v y reads.separate below r.row starts-at is-to (omega (arith, long)) (omega arith);
    }

-- so in the window, as bytes of it
pub lies_apart : (window : Range) (n to from k : ℕ) → Lies window to from k → n ≡ window.end - window.start → Apart n (to - window.start) (from - window.start) k
lies_apart window n to from k l e = record {
  target = omega (arith, l.start_to, l.end_to);
  origin = omega (arith, l.start_from, l.end_from);
  apart = ⊎_elim
      (λ (a : from + k ≤ to). inl (omega (arith, l.start_to, l.start_from)))
      (λ (a : to + k ≤ from). inr (omega (arith, l.start_to, l.start_from)))
      l.apart;
}

-- bytes of a part
pub part_bytes : (memory : List ℕ) (start n : ℕ) → ((j : ℕ) → get_or memory j 0 < 256) → start + n ≤ length memory →
    (j : ℕ) → j < length (mid_of start n memory) → get_or (mid_of start n memory) j 0 < 256
part_bytes memory start n h l j u = let v : j < n = omega (arith, length_mid start n memory l) in rw (get_or_mid start n memory j v) (h (start + j))

-- copied, it is the row of the pixels from there on
pub moved_drawn : (o : Surface) (bytes e : List ℕ) (to from k : ℕ) → k ≡ row_length o → ((j : ℕ) → j < length bytes → get_or bytes j 0 < 256) → from + k ≤ length bytes →
    length e ≡ length bytes → Done (moved_byte bytes to from) bytes e to (to + k) →
    e ≡ row_drawn o to (λ (x : ℕ). load_pixel o.format bytes (from + x * bytes_per_pixel o.format)) bytes
unfolding row_drawn
moved_drawn o bytes e to from k is-k small room same did =
    row_moved o.format bytes e to from o.width small (rw is-k at room) same (rw is-k at did)

-- which are the source's
pub moved_source : (t : Task) (memory : List ℕ) (start n from at x y : ℕ) → MovedTask t →
    at ≡ pixel_start t.source.surface (source_pixel_of t.source.surface t.source.transform 0 y).x (source_pixel_of t.source.surface t.source.transform 0 y).y →
    start + from ≡ at → from + row_length t.output ≤ n → x < t.output.width →
    load_pixel t.output.format (mid_of start n memory) (from + x * bytes_per_pixel t.output.format) ≡ source_colour t.source memory x y
unfolding colour_at
moved_source t memory start n from at x y m is_at here fits u =
    let s = t.source.surface in
    let f = t.output.format in
    let place : start + (from + x * bytes_per_pixel f) ≡ at + x * bytes_per_pixel f = omega (arith, here) in
    loaded_shift f start n (from + x * bytes_per_pixel f) memory (omega (arith, next x t.output.width (bytes_per_pixel f) u))
    ∙ (ap (load_pixel f memory) place
    ∙ (ap (λ (g : Format). load_pixel g memory (at + x * bytes_per_pixel g)) (sym m.format)
    ∙ (ap (λ (i : ℕ). load_pixel s.format memory (i + x * bytes_per_pixel s.format)) is_at
    ∙ (ap (load_pixel s.format memory) (sym (side_by_side s t.source.transform m.upright m.kept x y))
    ∙ sym (source_buffer t.source memory x y m.buffer)))))

-- and the task's, without blending
pub moved_pixel : (t : Task) (memory : List ℕ) (start n from at x y : ℕ) → MovedTask t → t.blending.on ≡ false →
    at ≡ pixel_start t.source.surface (source_pixel_of t.source.surface t.source.transform 0 y).x (source_pixel_of t.source.surface t.source.transform 0 y).y →
    start + from ≡ at → from + row_length t.output ≤ n → x < t.output.width →
    load_pixel t.output.format (mid_of start n memory) (from + x * bytes_per_pixel t.output.format) ≡ pixel_colour t memory x y
moved_pixel t memory start n from at x y m off is_at here fits u =
    moved_source t memory start n from at x y m is_at here fits u ∙ sym (pixel_plain t memory x y off)
