-- What a pixel of a task reads lies in memory.
use mathlib.Core.Path.{◌≡◌}
use mathlib.Core.Bool.{true}
use mathlib.Core.List.{List}
use Prim.Native.Nat.{ℕ, ◌+◌, ◌≤◌}
use native.Mathlib.Omega.{arith}
use lib.ListN.{length}
use Rattle.pixel.specs.Formats.{bytes_per_pixel}
use Rattle.transform.proofs.Inside.{source-within}
use Rattle.surface.specs.Surface.{pixel_start}
use Rattle.surface.proofs.Outside.{pixel_in_span}
use Rattle.register.specs.Task.{is_buffer}
use Rattle.register.specs.Size.{size_of}
use Rattle.register.specs.declared.task.Source.{Source}
use Rattle.register.specs.declared.task.Destination.{Destination}
use Rattle.register.specs.declared.task.Task.{Task}
use Rattle.row_pixels.specs.Row.{source_pixel_of}
use Rattle.raster.proofs.Pixel.{output-within, destination-within}
use Rattle.plain.specs.Pixel.{SourcePixel, DestinationPixel, Pixel}

pub source-read : (memory : List ℕ) (s : Source) (x y : ℕ) → SourcePixel memory s x y → is_buffer s.mode ≡ true →
    pixel_start s.surface (source_pixel_of s.surface s.transform x y).x (source_pixel_of s.surface s.transform x y).y + bytes_per_pixel s.surface.format ≤ length memory
unfolding source_pixel_of
source-read memory s x y p e =
    let w = source-within s.transform (size_of s.surface) (record { x = x; y = y }) p.within in
    omega (arith, (pixel_in_span s.surface _ _ w.across w.down).1, p.inside e)

pub destination-read : (memory : List ℕ) (d : Destination) (x y : ℕ) → DestinationPixel memory d x y →
    pixel_start d.surface x y + bytes_per_pixel d.surface.format ≤ length memory
destination-read memory d x y p = omega (arith, (pixel_in_span d.surface x y p.within.across p.within.down).1, p.inside)

module _ (memory : List ℕ) (t : Task) (x y : ℕ) (p : Pixel memory t x y) where
  -- a pixel of the task is one of its source
  pub source_pixel_lem : SourcePixel memory t.source x y
  source_pixel_lem = record {
    within = output-within p.whole.clear x y p.column p.row;
    inside = λ reads. (p.whole.clear.source reads).reach;
  }

  -- and of its destination
  pub destination_pixel : t.blending.on ≡ true → DestinationPixel memory t.destination x y
  destination_pixel on = record {
    within = destination-within p.whole.clear x y p.column p.row on;
    inside = (p.whole.clear.destination on).reach;
  }

  -- and it lies in memory
  pub output-inside : pixel_start t.output x y + bytes_per_pixel t.output.format ≤ length memory
  output-inside = omega (arith, (pixel_in_span t.output x y p.column p.row).1, p.whole.clear.ends)
