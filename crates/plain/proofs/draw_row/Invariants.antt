use mathlib.Core.Path.{◌≡◌}
use lib.ListN.{length}
use Rattle.plain.proofs.PixelByPixel.{prefix}
use Rattle.plain.proofs.draw_row.Given as goal

abbrev pub invariant-loop-x : goal.invariant-loop-x
invariant-loop-x l = record {
  pixels : l.memory ≡ prefix l.fn.task l.fn.y l.x l.initial.memory;
  size : length l.memory ≡ length l.initial.memory;
}
