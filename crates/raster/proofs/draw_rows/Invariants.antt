use Rattle.std.proofs.Common.{length}
use Rattle.raster.specs.Rows.{DrawsRows}
use Rattle.raster.proofs.Upto.{Upto}
use Rattle.raster.proofs.draw_rows.Given as goal

abbrev pub invariant-loop-y : goal.invariant-loop-y
invariant-loop-y g l = record {
  rows : Upto l.fn.task l.initial.memory l.memory l.y;
  row : DrawsRows g.F.FnMut l.fn.task (length l.initial.memory) l.row;
}
