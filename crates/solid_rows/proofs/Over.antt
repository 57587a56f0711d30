-- Rows with one colour over them: they are the task's.
use mathlib.Core.Path.{◌≡◌, sym, ap, ap₂, ◌∙◌}
use mathlib.Core.List.{List}
use Prim.Native.Nat.{ℕ, ◌+◌, ◌*◌, ◌≤◌, ◌<◌}
use native.Mathlib.Omega.{arith}
use lib.ListN.{length}
use borrow.Rule.Slice.PartMut.{mid_of, put_mid}
use Rattle.pixel.specs.Blending.{blended}
use Rattle.pixel.specs.Rules.{blend_mode_factors}
use Rattle.pixel.specs.declared.colour.Colour.{Colour as Channels}
use Rattle.pixel.specs.declared.blend.BlendMode.TheVariants.{SrcOver}
use Rattle.pixel.specs.declared.format.Format.{Format}
use Rattle.pixel.specs.declared.format.Format.TheVariants.{Argb8888}
use Rattle.surface.specs.Surface.{row_length, row_start}
use Rattle.surface.specs.Drawn.{load_pixel}
use Rattle.surface.specs.declared.Surface.{Surface}
use Rattle.surface.proofs.Loaded.{loaded_shift}
use Rattle.register.specs.declared.task.Source.{Source}
use Rattle.register.specs.declared.task.SourceMode.TheVariants.{Colour}
use Rattle.register.specs.declared.task.Task.{Task}
use Rattle.row_pixels.specs.Row.{colour_in, row_stored}
use Rattle.row_pixels.specs.Composite.{composite}
use Rattle.solid_rows.proofs.solid.Over.{composite-over}
use Rattle.raster.specs.Task.{source_colour, destination_colour, pixel_colour}
use Rattle.raster.specs.Row.{row_drawn}
use Rattle.raster.proofs.Slices.{row_lent, row_ext}
use Rattle.raster.proofs.Pixel.{pixel_blended}
use Rattle.raster.proofs.InPlace.{argb-length, own-pixel}
use Rattle.raster.proofs.Parts.{SolidTask}
use Rattle.solid_rows.specs.Row.{solid_colour}

-- a row that was lent and came back with a colour over it; k is its length as the borrow checker says it
pub solid_lent : (o : Surface) (c : Channels) (bytes last : List ℕ) (at k : ℕ) → o.format ≡ Argb8888 → k ≡ row_length o → at + row_length o ≤ length bytes →
    last ≡ row_stored Argb8888 (λ (x : ℕ). blended (blend_mode_factors SrcOver) c (colour_in (mid_of at k bytes) x)) (mid_of at k bytes) →
    put_mid at k bytes last ≡ row_drawn o at (λ (x : ℕ). blended (blend_mode_factors SrcOver) c (load_pixel Argb8888 bytes (at + x * 4))) bytes
solid_lent o c bytes last at k e n l h =
    let p : ℕ → Channels = λ (x : ℕ). blended (blend_mode_factors SrcOver) c (colour_in (mid_of at k bytes) x) in
    row_lent o p bytes last at k n l (h ∙ ap (λ (f : Format). row_stored f p (mid_of at k bytes)) (sym e))
    ∙ row_ext o at p (λ (x : ℕ). blended (blend_mode_factors SrcOver) c (load_pixel Argb8888 bytes (at + x * 4))) bytes
    (λ x u. ap (blended (blend_mode_factors SrcOver) c) (loaded_shift Argb8888 at k (x * 4) bytes (omega (arith, argb-length o e))))

source-colour : (s : Source) (memory : List ℕ) (x y : ℕ) → s.mode ≡ Colour → s.colour ≡ source_colour s memory x y
unfolding source_colour
source-colour s memory x y e = rw e

-- in a window of n bytes from `start` on, it is the task's
pub solid_pixel : (t : Task) (memory : List ℕ) (c : Channels) (start n at x y : ℕ) → SolidTask t → start + at ≡ row_start t.output y →
    at + row_length t.output ≤ n → x < t.output.width → c ≡ solid_colour t →
    blended (blend_mode_factors SrcOver) c (load_pixel Argb8888 (mid_of start n memory) (at + x * 4)) ≡ pixel_colour t memory x y
solid_pixel t memory c start n at x y k here fits u e =
    ap₂ (blended (blend_mode_factors SrcOver)) e (own-pixel t memory start n at x y k.placed here fits u)
    ∙ (composite-over t.blending t.source.alpha t.destination.alpha t.source.colour (destination_colour t.destination memory x y) k.rule k.alphas
    ∙ (ap (λ (s : Channels). composite t.blending t.source.alpha t.destination.alpha s (destination_colour t.destination memory x y)) (source-colour t.source memory x y k.mode)
    ∙ sym (pixel_blended t memory x y k.on)))
