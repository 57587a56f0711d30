-- Where row y of a task lies: what the functions that draw it ask.
use mathlib.Core.Path.{◌≡◌, refl, ap, ◌∙◌}
use mathlib.Core.Bool.{true}
use mathlib.Core.List.{List}
use Prim.Native.Nat.{ℕ, ◌+◌, ◌-◌, ◌*◌, ◌≤◌, ◌<◌}
use native.Mathlib.Omega.{arith}
use lib.ListN.{length}
use borrow.Rule.Slice.PartMut.{mid_of, put_mid}
use Rattle.range.specs.declared.Range.{Range}
use Rattle.pixel.specs.Formats.{bytes_per_pixel}
use Rattle.pixel.specs.declared.colour.Colour.{Colour}
use Rattle.transform.specs.declared.Size.{Size}
use Rattle.surface.specs.Surface.{row_length, row_start}
use Rattle.surface.proofs.Parts.{length_mid}
use Rattle.surface.proofs.Outside.{row_in-span}
use Rattle.register.specs.declared.task.Task.{Task}
use Rattle.raster.specs.Task.{pixel_colour}
use Rattle.kinds.specs.Predicates.{is_uniform}
use Rattle.raster.specs.Row.{RowDrawable, SourceRowInBounds, row_drawn, draw_row}
use Rattle.raster.proofs.Pixel.{uniform_unread, upright-down}
use Rattle.raster.proofs.Slices.{window_lent, row_ext}

module _ {window : Range} {memory : List ℕ} {t : Task} {y : ℕ} (r : RowDrawable window memory t y) where
  pub starts : window.start ≤ row_start t.output y
  starts = omega (arith, r.drawable.clear.begins)

  pub ends : row_start t.output y + row_length t.output ≤ window.end
  ends = omega (arith, row_in-span t.output y r.row, r.drawable.clear.ends)

  pub room : window.end ≤ length memory
  room = r.drawable.room

  pub ordered : window.start ≤ window.end
  ordered = omega (arith, starts, ends)

  -- the source row, which a buffer of so many pixels holds
  pub fetches : (buffer : List ℕ) → t.output.width * 4 ≤ length buffer → SourceRowInBounds memory buffer t.source y t.output.width
  fetches buffer l =
      let s = r.drawable.clear in
      let w = ap (λ (z : Size). z.width) s.size in
      let h = ap (λ (z : Size). z.height) s.size in
      record {
        room = l;
        across = omega (arith, w);
        down = omega (arith, h, r.row);
        upright = s.upright;
        inside = λ reads. (s.source reads).reach;
      }

  -- the source's row, where the output's has one colour
  pub uniform_down : is_uniform t.source.mode ≡ true → y < t.source.surface.height
  uniform_down u =
      let s = r.drawable.clear in
      let h = ap (λ (z : Size). z.height) s.size in
      upright-down t.source (s.upright (uniform_unread t.source.mode u)) y (omega (arith, h, r.row))

  -- the destination's row
  pub destination-row : t.blending.on ≡ true →
      row_start t.destination.surface y + t.output.width * bytes_per_pixel t.destination.surface.format ≤ length memory
  destination-row on =
      let d = r.drawable.clear.destination on in
      let w : t.destination.surface.width ≡ t.output.width = ap (λ (z : Size). z.width) d.size in
      let h : t.destination.surface.height ≡ t.output.height = ap (λ (z : Size). z.height) d.size in
      let e : t.destination.surface.width * bytes_per_pixel t.destination.surface.format ≡ t.output.width * bytes_per_pixel t.destination.surface.format =
      ap (λ (n : ℕ). n * bytes_per_pixel t.destination.surface.format) w in
      omega (arith, row_in-span t.destination.surface y (omega (arith, r.row)), d.reach)

  -- ---- the window that is lent

  pub window-fits : window.start + (window.end - window.start) ≤ length memory
  window-fits = omega (arith, ordered, room)

  pub length-window : length (mid_of window.start (window.end - window.start) memory) ≡ window.end - window.start
  length-window = length_mid window.start (window.end - window.start) memory window-fits

  -- the row begins at byte i of memory, and ends in the window
  pub row_fits : (i : ℕ) → i ≡ row_start t.output y → i - window.start + row_length t.output ≤ window.end - window.start
  row_fits i e = omega (arith, starts, ends)

  -- the row was drawn in the window, in the colours of the task
  pub row-drawn : (p : ℕ → Colour) (i : ℕ) (last : List ℕ) → i ≡ row_start t.output y →
      last ≡ row_drawn t.output (i - window.start) p (mid_of window.start (window.end - window.start) memory) →
      ((x : ℕ) → x < t.output.width → p x ≡ pixel_colour t memory x y) →
      put_mid window.start (window.end - window.start) memory last ≡ draw_row t y memory
  unfolding draw_row
  row-drawn p i last e h q =
      window_lent t.output p memory last window.start (window.end - window.start) _ (i - window.start) (row_start t.output y) refl window-fits (row_fits i e)
      (omega (arith, starts)) h
      ∙ row_ext t.output (row_start t.output y) p (λ (x : ℕ). pixel_colour t memory x y) memory q
