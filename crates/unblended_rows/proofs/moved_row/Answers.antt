use mathlib.Core.Path.{◌≡◌, refl}
use Prim.Native.Nat.{◌+◌, ◌-◌}
use native.Mathlib.Omega.{arith}
use Rattle.surface.specs.Surface.{row_length, row_start}
use Rattle.raster.proofs.Place.{starts, ordered, room, window-fits, length-window, row-drawn}
use Rattle.kinds.specs.declared.Kind.TheVariants.{Moved}
use Rattle.raster.proofs.Parts.{of_kind}
use Rattle.unblended_rows.proofs.Moved.{moved_down, moved_lies, lies_apart, part_bytes, moved_drawn, moved_pixel}
use Rattle.unblended_rows.proofs.moved_row.Goals as goal

pub identity_row_start-requires : goal.identity_row_start-requires
identity_row_start-requires c =
    let m = (of_kind c.args.window c.args.task Moved c.requires.1).moved in
    (m.upright, m.kept, moved_down c.requires.0 m)

pub overflow_sub-from : goal.overflow_sub-from
overflow_sub-from c =
    let a = c.args in
    let m = of_kind a.window a.task Moved c.requires.1 in
    (moved_lies c.requires.0 m.moved m.inside (row_start a.task.output a.y) c.identity_row_start.result (row_length a.task.output) refl c.identity_row_start.ensures refl).start_from

pub overflow_sub-to : goal.overflow_sub-to
overflow_sub-to c =
    omega (arith, c.row_start.ensures, starts c.requires.0)

pub slice_bounds-copy_within-count : goal.slice_bounds-copy_within-count
slice_bounds-copy_within-count c =
    ordered c.requires.0

pub slice_bounds-copy_within-start : goal.slice_bounds-copy_within-start
slice_bounds-copy_within-start c =
    let r = c.requires.0 in
    omega (arith, ordered r, room r)

pub slice_bounds-copy_within-end : goal.slice_bounds-copy_within-end
slice_bounds-copy_within-end c =
    omega (arith, room c.requires.0)

pub copy_within-requires : goal.copy_within-requires
copy_within-requires c =
    let m = of_kind c.args.window c.args.task Moved c.requires.1 in
    lies_apart c.args.window _ c.row_start.result c.identity_row_start.result c.row_length-n.result
    (moved_lies c.requires.0 m.moved m.inside c.row_start.result c.identity_row_start.result c.row_length-n.result c.row_start.ensures c.identity_row_start.ensures c.row_length-n.ensures)
    (length-window c.requires.0)

pub returns : goal.returns
returns c =
    let a = c.args in
    let r = c.requires.0 in
    let m = of_kind a.window a.task Moved c.requires.1 in
    let w = a.window in
    let p = moved_lies r m.moved m.inside c.row_start.result c.identity_row_start.result c.row_length-n.result c.row_start.ensures c.identity_row_start.ensures c.row_length-n.ensures in
    let q = lies_apart w _ c.row_start.result c.identity_row_start.result c.row_length-n.result p (length-window r) in
    let here : w.start + (c.identity_row_start.result - w.start) ≡ c.identity_row_start.result = omega (arith, p.start_from) in
    row-drawn r _ c.row_start.result c.copy_within.new.memory c.row_start.ensures
    (moved_drawn a.task.output _ c.copy_within.new.memory (c.row_start.result - w.start) (c.identity_row_start.result - w.start) c.row_length-n.result c.row_length-n.ensures
    (part_bytes a.memory.now w.start (w.end - w.start) (λ j. omega (arith, c.slice_known-1.given j)) (window-fits r))
    q.origin c.copy_within.auto.memory c.copy_within.ensures)
    (λ x u. moved_pixel a.task a.memory.now w.start (w.end - w.start) (c.identity_row_start.result - w.start) c.identity_row_start.result x a.y m.moved m.plain c.identity_row_start.ensures here
    (omega (arith, p.start_from, p.end_from, c.row_length-n.ensures)) u)
