-- Rows that are blended where they lie: the output is its own destination.
use mathlib.Core.Path.{◌≡◌, sym, ap, ap₂, ◌∙◌}
use mathlib.Core.Bool.{true}
use mathlib.Core.List.{List}
use Prim.Native.Nat.{ℕ, ◌+◌, ◌*◌, ◌≤◌, ◌<◌}
use native.Mathlib.Omega.{arith}
use lib.ListN.{length}
use borrow.Rule.Slice.PartMut.{mid_of, put_mid}
use Rattle.pixel.specs.declared.colour.Colour.{Colour}
use Rattle.pixel.specs.declared.format.Format.{Format}
use Rattle.pixel.specs.declared.format.Format.TheVariants.{Argb8888}
use Rattle.surface.specs.Surface.{row_length, row_start}
use Rattle.surface.specs.Drawn.{load_pixel}
use Rattle.surface.specs.declared.Surface.{Surface}
use Rattle.surface.proofs.Loaded.{loaded_shift}
use Rattle.register.specs.declared.task.Task.{Task}
use Rattle.raster.proofs.Parts.{Placed}
use Rattle.row_pixels.specs.Row.{colour_in, colour_at, row_stored}
use Rattle.row_pixels.specs.Composite.{composite}
use Rattle.raster.specs.Task.{source_colour, destination_colour, pixel_colour}
use Rattle.raster.specs.Row.{row_drawn}
use Rattle.raster.proofs.Slices.{row_lent, row_ext}
use Rattle.raster.proofs.Pixel.{pixel_blended}

pub argb-length : (o : Surface) → o.format ≡ Argb8888 → row_length o ≡ o.width * 4
argb-length o e = rw e

-- the colour that pixel x becomes, where the pixels that it is blended with begin at byte `at`
abbrev pub mixedFrom : Task → List ℕ → List ℕ → ℕ → ℕ → Colour
mixedFrom t s bytes at x = composite t.blending t.source.alpha t.destination.alpha (colour_in s x) (load_pixel Argb8888 bytes (at + x * 4))

-- a row that was lent and came back blended; k is its length as the borrow checker says it
pub mixed-lent : (t : Task) (bytes s last : List ℕ) (at k : ℕ) → t.output.format ≡ Argb8888 → k ≡ row_length t.output → at + row_length t.output ≤ length bytes →
    last
    ≡ row_stored Argb8888 (λ (x : ℕ). composite t.blending t.source.alpha t.destination.alpha (colour_in s x) (colour_in (mid_of at k bytes) x)) (mid_of at k bytes) →
    put_mid at k bytes last ≡ row_drawn t.output at (mixedFrom t s bytes at) bytes
mixed-lent t bytes s last at k e n l h =
    let p : ℕ → Colour = λ (x : ℕ). composite t.blending t.source.alpha t.destination.alpha (colour_in s x) (colour_in (mid_of at k bytes) x) in
    row_lent t.output p bytes last at k n l (h ∙ ap (λ (f : Format). row_stored f p (mid_of at k bytes)) (sym e))
    ∙ row_ext t.output at p (mixedFrom t s bytes at) bytes
    (λ x u. ap (composite t.blending t.source.alpha t.destination.alpha (colour_in s x))
    (loaded_shift Argb8888 at k (x * 4) bytes (omega (arith, argb-length t.output e))))

-- a pixel of the output, in a window of n bytes from `start` on, is the destination's
pub own-pixel : (t : Task) (memory : List ℕ) (start n at x y : ℕ) → Placed t → start + at ≡ row_start t.output y → at + row_length t.output ≤ n → x < t.output.width →
    load_pixel Argb8888 (mid_of start n memory) (at + x * 4) ≡ destination_colour t.destination memory x y
unfolding destination_colour colour_at
own-pixel t memory start n at x y p here fits u =
    let d = t.destination.surface in
    let same : start + (at + x * 4) ≡ row_start d y + x * 4 = rw (p.address, p.stride) (omega (arith, here)) in
    loaded_shift Argb8888 start n (at + x * 4) memory (omega (arith, argb-length t.output p.to))
    ∙ (ap (load_pixel Argb8888 memory) same ∙ rw p.from)

-- blended there, it is the task's
pub mixed-pixel : (t : Task) (memory s : List ℕ) (start n at x y : ℕ) → t.blending.on ≡ true → Placed t → start + at ≡ row_start t.output y →
    at + row_length t.output ≤ n → x < t.output.width → colour_in s x ≡ source_colour t.source memory x y →
    mixedFrom t s (mid_of start n memory) at x ≡ pixel_colour t memory x y
mixed-pixel t memory s start n at x y on p here fits u held =
    ap₂ (composite t.blending t.source.alpha t.destination.alpha) held (own-pixel t memory start n at x y p here fits u)
    ∙ sym (pixel_blended t memory x y on)
