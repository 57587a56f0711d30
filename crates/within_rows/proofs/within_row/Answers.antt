use mathlib.Core.Path.{◌≡◌, refl}
use Prim.Native.Nat.{◌+◌, ◌-◌}
use native.Mathlib.Omega.{arith}
use Rattle.surface.specs.Surface.{row_length, row_start}
use Rattle.raster.proofs.Place.{starts, ordered, room, window-fits, length-window, row-drawn}
use Rattle.unblended_rows.proofs.Moved.{moved_down, moved_lies, lies_apart}
use Rattle.raster.proofs.InPlace.{argb-length}
use Rattle.within_rows.proofs.Within.{in_window, within-drawn, within_pixel}
use Rattle.kinds.specs.declared.Kind.TheVariants.{Within}
use Rattle.raster.proofs.Parts.{of_kind}
use Rattle.within_rows.proofs.within_row.Goals as goal

pub identity_row_start-requires : goal.identity_row_start-requires
identity_row_start-requires c =
    let w = (of_kind c.args.window c.args.task Within c.requires.1).moved in
    (w.upright, w.kept, moved_down c.requires.0 w)

pub overflow_sub-from : goal.overflow_sub-from
overflow_sub-from c =
    let a = c.args in
    let w = of_kind a.window a.task Within c.requires.1 in
    (moved_lies c.requires.0 w.moved w.inside (row_start a.task.output a.y) c.identity_row_start.result (row_length a.task.output) refl c.identity_row_start.ensures refl).start_from

pub overflow_sub-to : goal.overflow_sub-to
overflow_sub-to c =
    omega (arith, c.row_start.ensures, starts c.requires.0)

pub slice_bounds-blend_within-count : goal.slice_bounds-blend_within-count
slice_bounds-blend_within-count c =
    ordered c.requires.0

pub slice_bounds-blend_within-start : goal.slice_bounds-blend_within-start
slice_bounds-blend_within-start c =
    let r = c.requires.0 in
    omega (arith, ordered r, room r)

pub slice_bounds-blend_within-end : goal.slice_bounds-blend_within-end
slice_bounds-blend_within-end c =
    omega (arith, room c.requires.0)

pub blend_within-requires : goal.blend_within-requires
blend_within-requires c =
    let w = of_kind c.args.window c.args.task Within c.requires.1 in (
      lies_apart c.args.window _ c.row_start.result c.identity_row_start.result c.row_length-n.result
          (moved_lies c.requires.0 w.moved w.inside c.row_start.result c.identity_row_start.result c.row_length-n.result c.row_start.ensures c.identity_row_start.ensures c.row_length-n.ensures)
          (length-window c.requires.0),
      omega (arith, c.row_length-n.ensures, argb-length c.args.task.output w.placed.to),
    )

pub returns : goal.returns
returns c =
    let a = c.args in
    let r = c.requires.0 in
    let q = of_kind a.window a.task Within c.requires.1 in
    let w = a.window in
    let i = c.identity_row_start.result in
    let n = c.row_length-n.result in
    let p = moved_lies r q.moved q.inside c.row_start.result i n c.row_start.ensures c.identity_row_start.ensures c.row_length-n.ensures in
    let in-w = in_window a.memory.now w.start (w.end - w.start) (λ j. omega (arith, c.slice_known-1.given j)) (window-fits r) in
    let from : w.start + (i - w.start) ≡ i = omega (arith, p.start_from) in
    let to : w.start + (c.row_start.result - w.start) ≡ row_start a.task.output a.y = omega (arith, p.start_to, c.row_start.ensures) in
    row-drawn r _ c.row_start.result c.blend_within.new.m c.row_start.ensures
    (within-drawn a.task a.plan.rule _ c.blend_within.new.m (c.row_start.result - w.start) (i - w.start) n q c.requires.2 c.row_length-n.ensures in-w
    (lies_apart w _ c.row_start.result i n p (length-window r)) c.blend_within.auto.m c.blend_within.ensures)
    (λ x u. within_pixel a.task a.memory.now w.start (w.end - w.start) (c.row_start.result - w.start) (i - w.start) i x a.y q in-w (window-fits r)
    c.identity_row_start.ensures from to (omega (arith, p.start_from, p.end_from, c.row_length-n.ensures)) (omega (arith, p.start_to, p.end_to, c.row_length-n.ensures)) u)
