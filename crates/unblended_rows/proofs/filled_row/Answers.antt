use mathlib.Core.Path.{sym, ◌∙◌}
use native.Mathlib.Omega.{arith}
use Rattle.raster.proofs.Pixel.{pixel_plain, source_uniform}
use Rattle.raster.proofs.Place.{ordered, room, uniform_down, length-window, row_fits, row-drawn}
use Rattle.kinds.specs.declared.Kind.TheVariants.{Filled}
use Rattle.raster.proofs.Parts.{of_kind}
use Rattle.unblended_rows.proofs.filled_row.Goals as goal

pub uniform_colour-c-requires : goal.uniform_colour-c-requires
uniform_colour-c-requires c =
    uniform_down c.requires.0 (of_kind c.args.window c.args.task Filled c.requires.1).uniform

pub slice_bounds-fill_at-count : goal.slice_bounds-fill_at-count
slice_bounds-fill_at-count c =
    ordered c.requires.0

pub slice_bounds-fill_at-start : goal.slice_bounds-fill_at-start
slice_bounds-fill_at-start c =
    let r = c.requires.0 in
    omega (arith, ordered r, room r)

pub fill_at-requires : goal.fill_at-requires
fill_at-requires c =
    let r = c.requires.0 in
    omega (arith, row_fits r _ c.row_start.ensures, length-window r)

pub returns : goal.returns
returns c =
    let a = c.args in
    let k = of_kind a.window a.task Filled c.requires.1 in
    let f = c.fill_at in
    row-drawn c.requires.0 _ c.row_start.result f.new.window c.row_start.ensures f.ensures
    (λ x l.
    c.uniform_colour-c.ensures
    ∙ (source_uniform a.task.source a.memory.now x a.y k.uniform c.requires.0.drawable.clear.upright
    ∙ sym (pixel_plain a.task a.memory.now x a.y k.plain)))
