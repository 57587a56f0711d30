use Rattle.pixel.specs.declared.format.Format.TheVariants.{Rgb565}
use Rattle.lanes.specs.Lanes.{Done}
use Rattle.row_pixels.specs.Row.{colour_in}
use Rattle.row_pixels.specs.Line.{pixel_byte}
use Prim.Native.Nat.{◌*◌}
use mathlib.Core.Path.{◌≡◌}
use lib.ListN.{length}
use Rattle.convert.proofs.rgb565.to_565.Given as goal

abbrev pub invariant-loop-x : goal.invariant-loop-x
invariant-loop-x l = (length l.d ≡ length l.initial.d) × Done (pixel_byte Rgb565 (λ k. colour_in l.s k)) l.initial.d l.d 0 (l.x * 2)
