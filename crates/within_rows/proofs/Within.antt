-- A task whose rows are blended inside the window: its colours are those of the two rows, blended.
use mathlib.Core.Path.{◌≡◌, sym, ap, ◌∙◌}
use mathlib.Core.Bool.{false}
use mathlib.Core.List.{List}
use Prim.Native.Nat.{ℕ, ◌+◌, ◌-◌, ◌*◌, ◌/◌, ◌%◌, ◌≤◌, ◌<◌}
use native.Mathlib.Nat.{min-le_left}
use native.Mathlib.Omega.{arith}
use lib.ListN.{length, get_or, drop, length-drop, get_or-eq_default}
use lib.Seq.{get_or-drop, ext_get_or}
use borrow.Rule.Slice.PartMut.{mid_of, put_mid}
use Rattle.range.specs.declared.Range.{Range}
use Rattle.division.specs.Division.{div255}
use Rattle.pixel.specs.Blending.{blended_channel, blended}
use Rattle.pixel.specs.declared.blend.AlphaMode.TheVariants.{Pixel}
use Rattle.pixel.specs.declared.blend.BlendFactors.{BlendFactors}
use Rattle.pixel.specs.declared.colour.Colour.{Colour}
use Rattle.pixel.specs.declared.format.Format.TheVariants.{Argb8888}
use Rattle.surface.specs.Surface.{row_length, row_start, pixel_start}
use Rattle.surface.specs.Drawn.{load_pixel}
use Rattle.surface.proofs.Parts.{Side, before, inside, past, side, length_mid, get_or_mid, length_put, put_before, put_in, put_past}
use Rattle.register.specs.declared.task.Alpha.{Alpha}
use Rattle.register.specs.declared.task.Blending.{Blending}
use Rattle.register.specs.declared.task.Task.{Task}
use Rattle.row_pixels.specs.Row.{colour_in, source_pixel_of}
use Rattle.row_pixels.specs.Composite.{composite}
use Rattle.lanes.specs.Lanes.{Done}
use Rattle.lanes.proofs.Laws.{under_or}
use Rattle.lanes.proofs.Passes.{to_end}
use Rattle.plan.specs.Blend.{blend_at}
use Rattle.row_pixels.proofs.RowColours.Colours.{Row, colour-is, blend_colour, row_is}
use Rattle.lanes.specs.Apart.{Apart}
use Rattle.within_rows.specs.Within.{blend_within}
use Rattle.within_rows.proofs.Rows.{in_drop}
use Rattle.raster.specs.Task.{pixel_colour}
use Rattle.raster.specs.Row.{row_drawn}
use Rattle.raster.proofs.InPlace.{argb-length, mixedFrom, mixed-lent, mixed-pixel}
use Rattle.unblended_rows.proofs.Moved.{moved_source}
use Rattle.raster.proofs.Parts.{BlendedWithin}

-- its colours are blended as they are
plain-composite : (b : Blending) (source destination : Alpha) (s d : Colour) → b.premultiplied ≡ false → source.mode ≡ Pixel → destination.mode ≡ Pixel →
    composite b source destination s d ≡ blended b.rule s d
unfolding composite
plain-composite b source destination s d e f g = rw (e, f, g)

-- ---- the rows as lists

-- a part of bytes is bytes
pub in_window : (m : List ℕ) (a n : ℕ) → Row m → a + n ≤ length m → Row (mid_of a n m)
in_window m a n h l j =
    under_or j n
    (λ u. rw (get_or_mid a n m j u) (h (a + j)))
    (λ u. rw (get_or-eq_default (mid_of a n m) 0 {n = j} (omega (arith, length_mid a n m l))) (omega arith))

-- bytes after the row was blended are bytes
channel-small : (s fs d fd : ℕ) → blended_channel s fs d fd < 256
unfolding blended_channel
channel-small s fs d fd = omega (arith, min-le_left 255 (div255 (s * fs + d * fd)))

blend_small : (rule : BlendFactors) (m : List ℕ) (to from i : ℕ) → blend_within rule m to from i < 256
unfolding blend_within blend_at
blend_small rule m to from i = channel-small _ _ _ _

module _ (rule : BlendFactors) (m e : List ℕ) (to from n : ℕ) (did : Done (blend_within rule m to from) m e to (to + n)) where
  in_after : Row m → Row e
  in_after h j =
      under_or j to
      (λ u. rw (did.under j u) (h j))
      (λ u. under_or j (to + n) (λ v. rw (did.done j u v) (blend_small rule m to from j)) (λ v. rw (did.past j v) (h j)))

  -- seen as parts: the row, and the whole with the row put back
  part_done : n % 4 ≡ 0 → to + n ≤ length m → length e ≡ length m → Done (blend_at rule (drop from m) (mid_of to n m)) (mid_of to n m) (mid_of to n e) 0 n
  unfolding blend_within blend_at
  part_done four fits same = record {
    done = λ j h l.
        let z : to + j - to ≡ j = omega arith in
        let own : get_or (drop to m) j 0 ≡ get_or (mid_of to n m) j 0 = get_or-drop to m j 0 ∙ sym (get_or_mid to n m j l) in
        let alpha : get_or (drop to m) (j / 4 * 4 + 3) 0 ≡ get_or (mid_of to n m) (j / 4 * 4 + 3) 0 = get_or-drop to m (j / 4 * 4 + 3) 0 ∙ sym (get_or_mid to n m (j / 4 * 4 + 3) (omega arith)) in
        get_or_mid to n e j l ∙ (did.done (to + j) (omega arith) (omega arith) ∙ rw (z, own, alpha));
    under = λ j l. absurd (omega arith);
    past = λ j l. get_or-eq_default (mid_of to n e) 0 {n = j} (omega (arith, length_mid to n e (omega arith))) ∙ sym (get_or-eq_default (mid_of to n m) 0 {n = j} (omega (arith, length_mid to n m fits)));
  }

  put_back : to + n ≤ length m → length e ≡ length m → e ≡ put_mid to n m (mid_of to n e)
  put_back fits same = ext_get_or 0 e (put_mid to n m (mid_of to n e)) (same ∙ sym (length_put to n m (mid_of to n e) fits long)) (λ i l. at i (side to n i))
    where
      long : length (mid_of to n e) ≡ n
      long = length_mid to n e (omega arith)

      at : (i : ℕ) → Side to n i → get_or e i 0 ≡ get_or (put_mid to n m (mid_of to n e)) i 0
      at i (before u) = did.under i u ∙ sym (put_before to n m (mid_of to n e) fits long i u)
      at i (inside u v) =
          let z : to + (i - to) ≡ i = omega arith in
          sym (put_in to n m (mid_of to n e) fits long i u v ∙ (get_or_mid to n e (i - to) (omega arith) ∙ ap (λ (q : ℕ). get_or e q 0) z))
      at i (past v) = did.past i v ∙ sym (put_past to n m (mid_of to n e) fits long i v)

-- a pixel of the source's row, seen from where that begins
drop-colour : (m : List ℕ) (a i : ℕ) → Row m → a + i + 4 ≤ length m → load_pixel Argb8888 (drop a m) i ≡ load_pixel Argb8888 m (a + i)
drop-colour m a i h l =
    let e₃ : a + (i + 3) ≡ a + i + 3 = omega arith in
    let e₂ : a + (i + 2) ≡ a + i + 2 = omega arith in
    let e₁ : a + (i + 1) ≡ a + i + 1 = omega arith in
    let long : i + 4 ≤ length (drop a m) = rw length-drop (omega arith) in
    colour-is (drop a m) i (in_drop m a h) long
    ∙ ((rw (get_or-drop a m (i + 3) 0, get_or-drop a m (i + 2) 0, get_or-drop a m (i + 1) 0, get_or-drop a m i 0, e₃, e₂, e₁)) ∙ sym (colour-is m (a + i) h l))

-- ---- a row

-- blended, it is the row of the colours that the task blends
pub within-drawn : {window : Range} (t : Task) (rule : BlendFactors) (bytes e : List ℕ) (to from n : ℕ) → BlendedWithin window t → rule ≡ t.blending.rule → n ≡ row_length t.output → Row bytes →
    Apart (length bytes) to from n → length e ≡ length bytes → Done (blend_within rule bytes to from) bytes e to (to + n) →
    e ≡ row_drawn t.output to (mixedFrom t (drop from bytes) bytes to) bytes
within-drawn {window} t rule bytes e to from n w is-rule is-n in_b a same did =
    let width : ℕ = t.output.width in
    let wide : n ≡ width * 4 = is-n ∙ argb-length t.output w.placed.to in
    let d = mid_of to n bytes in
    let long-d : length d ≡ n = length_mid to n bytes a.target in
    let long-e : length (mid_of to n e) ≡ n = length_mid to n e (omega (arith, a.target)) in
    let in-d = in_window bytes to n in_b a.target in
    let in_e = in_window e to n (in_after rule bytes e to from n did in_b) (omega (arith, a.target)) in
    let long-s : width * 4 ≤ length (drop from bytes) = rw length-drop (omega (arith, a.origin)) in
    let row = part_done rule bytes e to from n did (omega arith) a.target same in
    put_back rule bytes e to from n did a.target same
    ∙ mixed-lent t bytes (drop from bytes) (mid_of to n e) to n w.placed.to is-n (omega (arith, a.target))
    (row_is d (mid_of to n e) width in-d in_e (omega arith) (omega arith) _ (long-e ∙ sym long-d) (long-d ∙ wide)
    (λ x l.
    blend_colour d (mid_of to n e) width in-d in_e (omega arith) (omega arith) rule (drop from bytes) (in_drop bytes from in_b) long-s (to_end (blend_at rule (drop from bytes) d) d (mid_of to n e) 0 n (width * 4) wide row) x l
    ∙ (ap (λ (r : BlendFactors). blended r (colour_in (drop from bytes) x) (colour_in d x)) is-rule
    ∙ sym (plain-composite t.blending t.source.alpha t.destination.alpha (colour_in (drop from bytes) x) (colour_in d x) w.plain w.source w.destination))))

-- which are the task's; the rows lie in a window of n bytes from `start` on
pub within_pixel : {window : Range} (t : Task) (memory : List ℕ) (start n to from at x y : ℕ) → BlendedWithin window t → Row (mid_of start n memory) → start + n ≤ length memory →
    at ≡ pixel_start t.source.surface (source_pixel_of t.source.surface t.source.transform 0 y).x (source_pixel_of t.source.surface t.source.transform 0 y).y →
    start + from ≡ at → start + to ≡ row_start t.output y → from + row_length t.output ≤ n → to + row_length t.output ≤ n → x < t.output.width →
    mixedFrom t (drop from (mid_of start n memory)) (mid_of start n memory) to x ≡ pixel_colour t memory x y
within_pixel {window} t memory start n to from at x y w in-w room is_at here there fits-from fits-to u =
    let bytes = mid_of start n memory in
    let wide : row_length t.output ≡ t.output.width * 4 = argb-length t.output w.placed.to in
    mixed-pixel t memory (drop from bytes) start n to x y w.on w.placed there fits-to u
    (drop-colour bytes from (x * 4) in-w (omega (arith, length_mid start n memory room))
    ∙ (rw w.placed.to at (moved_source t memory start n from at x y w.moved is_at here fits-from u)))
