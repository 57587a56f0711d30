use mathlib.Core.Path.{◌≡◌}
use Prim.Native.Nat.{◌+◌, ◌-◌}
use native.Mathlib.Omega.{arith}
use Rattle.surface.specs.Surface.{row_start}
use Rattle.raster.proofs.Parts.{of-finish}
use Rattle.raster.proofs.Place.{starts, ordered, room, fetches, destination-row, length-window, row_fits, row-drawn}
use Rattle.buffered_rows.proofs.Finished.{finished_pixel}
use Rattle.buffered_rows.proofs.Planned.buffered_row.Goals as goal

pub read_row-requires : goal.read_row-requires
read_row-requires c =
    (record { source = fetches c.requires.0 c.args.source.now c.requires.1.source; destination = destination-row c.requires.0 }, c.requires.1)

pub slice_bounds-finish_at-count : goal.slice_bounds-finish_at-count
slice_bounds-finish_at-count c =
    ordered c.requires.0

pub slice_bounds-finish_at-start : goal.slice_bounds-finish_at-start
slice_bounds-finish_at-start c =
    let r = c.requires.0 in
    omega (arith, ordered r, room r)

pub finish_at-requires : goal.finish_at-requires
finish_at-requires c =
    let p = c.requires.1 in (
      omega (arith, row_fits c.requires.0 _ c.row_start.ensures, length-window c.requires.0),
      record {
        source = omega (arith, c.read_row.auto.source, p.source);
        destination = omega (arith, c.read_row.auto.destination, p.destination);
      },
    )

pub returns : goal.returns
returns c =
    let a = c.args in
    let r = c.requires.0 in
    let w = a.window in
    let e : w.start + (c.row_start.result - w.start) ≡ row_start a.self.now.task.output a.y = omega (arith, starts r, c.row_start.ensures) in
    row-drawn r _ c.row_start.result c.finish_at.new.window c.row_start.ensures c.finish_at.ensures
    (λ x u. finished_pixel a.self.now.finish a.self.now.task a.memory.now _ _ w.start (w.end - w.start) (c.row_start.result - w.start) x a.y
    (of-finish a.self.now.task a.self.now.finish c.args.self.now.of_task) c.read_row.ensures e (row_fits r _ c.row_start.ensures) u)
