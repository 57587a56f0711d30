use mathlib.Core.Path.{◌≡◌}
use Prim.Native.Nat.{◌+◌, ◌-◌}
use native.Mathlib.Omega.{arith}
use Rattle.surface.specs.Surface.{row_start}
use Rattle.raster.proofs.Place.{starts, ordered, room, length-window, row_fits, row-drawn}
use Rattle.kinds.specs.declared.Kind.TheVariants.{Solid as Covered}
use Rattle.raster.proofs.Parts.{of_kind}
use Rattle.solid_rows.proofs.Over.{solid_pixel}
use Rattle.solid_rows.proofs.covered_row.Goals as goal

pub slice_bounds-solid_at-count : goal.slice_bounds-solid_at-count
slice_bounds-solid_at-count c = ordered c.requires.0

pub slice_bounds-solid_at-start : goal.slice_bounds-solid_at-start
slice_bounds-solid_at-start c =
    let r = c.requires.0 in
    omega (arith, ordered r, room r)

pub solid_at-requires : goal.solid_at-requires
solid_at-requires c =
    let r = c.requires.0 in
    record { inside = omega (arith, row_fits r _ c.row_start.ensures, length-window r); format = (of_kind c.args.window c.args.task Covered c.requires.1).placed.to }

pub returns : goal.returns
returns c =
    let f = c.solid_at in
    let a = c.args in
    let r = c.requires.0 in
    let e : a.window.start + (c.row_start.result - a.window.start) ≡ row_start a.task.output a.y = omega (arith, starts r, c.row_start.ensures) in
    row-drawn r _ c.row_start.result f.new.window c.row_start.ensures f.ensures
    (λ x u. solid_pixel a.task a.memory.now a.solid.colour a.window.start (a.window.end - a.window.start) (c.row_start.result - a.window.start) x a.y
    (of_kind a.window a.task Covered c.requires.1) e (row_fits r _ c.row_start.ensures) u c.requires.2)
