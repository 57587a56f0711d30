use Rattle.pixel.specs.declared.format.Format.TheVariants.{Argb8888, Rgb888}
use Rattle.surface.specs.Drawn.{load_pixel}
use Rattle.lanes.specs.Lanes.{Done}
use Rattle.row_pixels.specs.Line.{pixel_byte}
use Prim.Native.Nat.{◌*◌}
use mathlib.Core.Path.{◌≡◌}
use lib.ListN.{length}
use Rattle.convert.proofs.rgb888.from_888.Given as goal

abbrev pub invariant-loop-x : goal.invariant-loop-x
invariant-loop-x l = (length l.d ≡ length l.initial.d) × Done (pixel_byte Argb8888 (λ k. load_pixel Rgb888 l.s (k * 3))) l.initial.d l.d 0 (l.x * 4)
