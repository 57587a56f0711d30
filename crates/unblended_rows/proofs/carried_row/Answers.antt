use mathlib.Core.Path.{sym, ◌∙◌}
use native.Mathlib.Omega.{arith}
use Rattle.raster.proofs.Pixel.{pixel_plain}
use Rattle.kinds.specs.declared.Kind.TheVariants.{Carried}
use Rattle.raster.proofs.Parts.{of_kind}
use Rattle.unblended_rows.proofs.Moved.{source_buffer}
use Rattle.raster.proofs.Place.{ordered, room, fetches, length-window, row_fits, row-drawn}
use Rattle.unblended_rows.proofs.carried_row.Goals as goal

pub fetch_bytes-requires : goal.fetch_bytes-requires
fetch_bytes-requires c =
    let a = c.args in
    let k = of_kind a.window a.task Carried c.requires.2 in
    let m = k.moved in
    let f = fetches c.requires.0 a.source.now c.requires.1 in
    (record { inside = f.inside m.buffer; across = f.across; down = f.down; room = f.room }, m.upright, m.kept)

pub slice_bounds-store_at-count : goal.slice_bounds-store_at-count
slice_bounds-store_at-count c =
    ordered c.requires.0

pub slice_bounds-store_at-start : goal.slice_bounds-store_at-start
slice_bounds-store_at-start c =
    let r = c.requires.0 in
    omega (arith, ordered r, room r)

pub store_at-requires : goal.store_at-requires
store_at-requires c =
    let p = c.requires in
    record {
      inside = omega (arith, row_fits p.0 _ c.row_start.ensures, length-window p.0);
      room = omega (arith, c.fetch_bytes.auto.buffer, p.1, p.0.drawable.clear.output.width_max);
    }

pub returns : goal.returns
returns c =
    let a = c.args in
    let b = c.store_at in
    let k = of_kind a.window a.task Carried c.requires.2 in
    let m = k.moved in
    row-drawn c.requires.0 _ c.row_start.result b.new.window c.row_start.ensures b.ensures
    (λ x u. rw (← m.format) (c.fetch_bytes.ensures x u) ∙ sym (pixel_plain a.task a.memory.now x a.y k.plain ∙ source_buffer a.task.source a.memory.now x a.y m.buffer))
