-- A picture drawn with one setting, and what came out drawn with another, is the picture drawn with the composed setting.
use mathlib.Core.Path.{◌≡◌, refl, sym, ap, ◌∙◌}
use mathlib.Core.Bool.{true, false}
use mathlib.Core.List.{List}
use Prim.Native.Nat.{ℕ, ◌/◌, ◌%◌, ◌<◌}
use native.Mathlib.Omega.{arith}
use native.Mathlib.Nat.{div-lt_iff_lt-mul}
use lib.ListN.{length, get_or}
use Rattle.word.specs.Word.{byte_of}
use Rattle.pixel.specs.Formats.{bytes_per_pixel, layout_of}
use Rattle.pixel.specs.Colours.{packed, unpacked}
use Rattle.pixel.specs.declared.colour.Colour.{Colour as Channels}
use Rattle.pixel.specs.declared.format.Format.{Format}
use Rattle.transform.specs.Transform.{InPicture, rotated_size, source_pixel}
use Rattle.orientation.specs.Compose.{compose}
use Rattle.transform.specs.declared.Point.{Point}
use Rattle.transform.specs.declared.Size.{Size}
use Rattle.transform.specs.declared.Transform.{Transform}
use Rattle.transform.proofs.Inside.{source-within}
use Rattle.orientation.proofs.Composed.{composes}
use Rattle.surface.specs.declared.Surface.{Surface}
use Rattle.surface.specs.Surface.{InRow}
use Rattle.surface.proofs.Sizes.{bytes-some}
use Rattle.surface.proofs.Outside.{byte_in-span, length_drawn_on, outside-rows, inside-row, drawn_on_ext, drawn_on_agree}
use Rattle.surface.proofs.Loaded.{loaded_again, loaded_drawn}
use Rattle.register.specs.declared.task.Source.{Source}
use Rattle.register.specs.declared.task.SourceMode.{SourceMode}
use Rattle.register.specs.declared.task.SourceMode.TheVariants.{Buffer, Colour, GradientX, GradientY}
use Rattle.register.specs.Task.{is_buffer}
use Rattle.register.specs.Size.{size_of}
use Rattle.row_pixels.specs.Row.{colour_at, source_pixel_of}
use Rattle.raster.specs.Task.{source_mode_colour, source_colour, draw_task}
use Rattle.raster.specs.Twice.{turned, Fits, Tasks, twice, once, TwoTurns, TwoTasks}
use Rattle.raster.proofs.RowByRow.{stride-some}
use Rattle.raster.proofs.Pixel.{pixel_plain}

-- ---- the tasks that draw so

colour_by_buffer : (m : SourceMode) (s : Source) (memory : List ℕ) (p : Point) → is_buffer m ≡ true → source_mode_colour m s memory p ≡ colour_at s.surface memory p
colour_by_buffer Buffer s memory p e = refl
colour_by_buffer Colour s memory p e = let z : false ≡ true = e in cc
colour_by_buffer GradientX s memory p e = let z : false ≡ true = e in cc
colour_by_buffer GradientY s memory p e = let z : false ≡ true = e in cc

pub tasks : Tasks
unfolding draw_task turned source_colour
tasks window n t p = record {
  fits = record {
    size = p.drawable.clear.size;
    format = p.format;
    rows = p.drawable.clear.output;
    inside = omega (arith, p.drawable.clear.ends, p.drawable.room);
  };
  draws = λ memory.
      drawn_on_ext t.output _ _ memory (stride-some t.output p.drawable.clear.output)
      (λ x y u v. pixel_plain t memory x y p.unblended ∙ colour_by_buffer t.source.mode t.source memory _ p.reads);
}

-- ---- a picture drawn, and a pixel of it loaded

module _ (s : Surface) (setting : Transform) (o : Surface) (memory : List ℕ) where
  length-turned : length (turned s setting o memory) ≡ length memory
  unfolding turned
  length-turned = length_drawn_on o _ memory

  -- it has the colour of the pixel that the setting brings there
  turned_loaded : Fits (length memory) s setting o → (p : Point) → InPicture (size_of o) p →
      colour_at o (turned s setting o memory) p ≡ colour_at s memory (source_pixel setting (size_of s) p)
  unfolding turned colour_at source_pixel_of
  turned_loaded f p w =
      loaded_drawn o (λ (x y : ℕ). colour_at s memory (source_pixel_of s setting x y)) memory f.rows.rows_apart f.inside p.x p.y w.across w.down
      ∙ ap (λ (g : Format). unpacked (layout_of g) (packed (layout_of g) (colour_at s memory (source_pixel setting (size_of s) p)))) (sym f.format)
      ∙ loaded_again s.format memory _

-- ---- two drawings and one

module _ (s m o : Surface) (a b : Transform) (memory : List ℕ) (f : Fits (length memory) s a m) (g : Fits (length memory) m b o) where
  abbrev between : List ℕ
  between = turned s a m memory

  composed-size : rotated_size (compose a b).rotation (size_of s) ≡ size_of o
  composed-size = composes.size a b (size_of s) ∙ ap (rotated_size b.rotation) f.size ∙ g.size

  -- the second picture has the colours of the one
  colours : (x y : ℕ) → x < o.width → y < o.height → colour_at m between (source_pixel_of m b x y) ≡ colour_at s memory (source_pixel_of s (compose a b) x y)
  unfolding source_pixel_of
  colours x y u v =
      let p : Point = record { x = x; y = y } in
      let w : InPicture (size_of o) p = record { across = u; down = v } in
      turned_loaded s a m memory f (source_pixel b (size_of m) p) (source-within b (size_of m) p (rw g.size w))
      ∙ ap (λ (z : Size). colour_at s memory (source_pixel a (size_of s) (source_pixel b z p))) (sym f.size)
      ∙ ap (colour_at s memory) (sym (composes.source a b (size_of s) p (rw composed-size w)))

  -- so each byte of its rows is the same
  output : (i y j : ℕ) → InRow o i y j → get_or (twice s m o a b memory) i 0 ≡ get_or (once s m o a b memory) i 0
  unfolding turned
  output i y j r =
      let l : i < length memory = omega (arith, (byte_in-span o i y j r).1, g.inside) in
      let x : j / bytes_per_pixel o.format < o.width = (div-lt_iff_lt-mul (bytes-some o.format)).1 r.column in
      inside-row o _ between g.rows.rows_apart i y j (omega (arith, length-turned s a m memory)) r
      ∙ ap (λ (c : Channels). byte_of (packed (layout_of o.format) c) (j % bytes_per_pixel o.format)) (colours (j / bytes_per_pixel o.format) y x r.row)
      ∙ sym (inside-row o _ memory g.rows.rows_apart i y j l r)

  -- and one that the first drawing leaves is the same after the second
  others : (i : ℕ) → i < length memory → ((y j : ℕ) → InRow m i y j → ⊥) → get_or (twice s m o a b memory) i 0 ≡ get_or (once s m o a b memory) i 0
  unfolding turned
  others i l out =
      drawn_on_agree o _ _ between memory (stride-some o g.rows) colours i (length-turned s a m memory) (omega (arith, length-turned s a m memory))
      (outside-rows m _ memory (stride-some m f.rows) i out)

pub two-turns : TwoTurns
two-turns s m o a b memory f g = record {
  output = output s m o a b memory f g;
  others = others s m o a b memory f g;
  fits = record { size = composed-size s m o a b memory f g; format = f.format ∙ g.format; rows = g.rows; inside = g.inside };
}

pub two-tasks : TwoTasks
two-tasks window memory first second one p q k h i y j r =
    let c = tasks window (length memory) first p in
    let d = tasks window (length memory) second q in
    let e = tasks window (length memory) one k in
    let s = first.source.surface in
    let m = first.output in
    let o = second.output in
    let a = first.source.transform in
    let b = second.source.transform in
    let g : Fits (length memory) m b o = rw h.between at d.fits in
    let v : InRow o i y j = rw h.output at r in
    let two : draw_task second (draw_task first memory) ≡ turned m b o (turned s a m memory) =
    ap (draw_task second) (c.draws memory) ∙ d.draws (turned s a m memory) ∙ ap (λ (z : Surface). turned z b o (turned s a m memory)) h.between in
    let all : draw_task one memory ≡ turned s (compose a b) o memory = e.draws memory ∙ rw (h.source, h.output, h.setting) in
    ap (λ (l : List ℕ). get_or l i 0) two ∙ output s m o a b memory c.fits g i y j v ∙ sym (ap (λ (l : List ℕ). get_or l i 0) all)
