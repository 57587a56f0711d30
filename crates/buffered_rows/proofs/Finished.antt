-- What was read and finished is the task's.
use mathlib.Core.Path.{◌≡◌, sym, ◌∙◌}
use mathlib.Core.List.{List}
use Prim.Native.Nat.{ℕ, ◌+◌, ◌≤◌, ◌<◌}
use borrow.Rule.Slice.PartMut.{mid_of}
use Rattle.surface.specs.Surface.{row_length, row_start}
use Rattle.register.specs.declared.task.Task.{Task}
use Rattle.kinds.specs.declared.Finish.{Finish}
use Rattle.kinds.specs.declared.Finish.TheVariants.{Copied, InPlace, Blended}
use Rattle.raster.proofs.Parts.{FinishFits}
use Rattle.raster.specs.Task.{pixel_colour}
use Rattle.raster.proofs.Pixel.{pixel_plain}
use Rattle.raster.proofs.InPlace.{mixed-pixel}
use Rattle.buffered_rows.specs.Row.{RowRead, finished_colour}

-- a pixel of a row that lies in a window of n bytes from `start` on
pub finished_pixel : (f : Finish) (t : Task) (memory s d : List ℕ) (start n at x y : ℕ) → FinishFits f t → RowRead f t memory s d y →
    start + at ≡ row_start t.output y → at + row_length t.output ≤ n → x < t.output.width →
    finished_colour f t s d (mid_of start n memory) at x ≡ pixel_colour t memory x y
finished_pixel Copied t memory s d start n at x y off held here fits u = held x u ∙ sym (pixel_plain t memory x y off)
finished_pixel InPlace t memory s d start n at x y p held here fits u = mixed-pixel t memory s start n at x y p.0 p.1 here fits u (held x u)
finished_pixel Blended t memory s d start n at x y on held here fits u = held x u
