use mathlib.Core.Path.{refl, sym, ◌∙◌}
use lib.ListN.{length}
use native.Mathlib.Omega.{arith}
use borrow.Rule.Slice.PartMut.{mid_len}
use Prim.Native.Nat.{◌≤◌}
use Rattle.queue.proofs.Room.{client-small}
use Rattle.queue.proofs.Refusals.{not_zero, CloseAllowed, close-allowed}
use Rattle.queue.proofs.Calls.{close-refused, close-done}
use Rattle.engine.proofs.Zeros.{zeros-all, close-left, close-made, window-inside}
use Rattle.dequeue.proofs.closing.close.Goals.{After-window_of-window, In_default}
use Rattle.dequeue.proofs.closing.close.Goals as goal

allowed : (c : In_default) → CloseAllowed c.args.engine (length c.args.memory.now) c.args.client
allowed c = let a = c.args in close-allowed a.engine (length a.memory.now) a.client (sym c.in_default.ensures)

-- the window lies in memory
inside : (c : After-window_of-window) → CloseAllowed c.args.engine (length c.args.memory.now) c.args.client →
    (c.window_of-window.result.start ≤ c.window_of-window.result.end) × (c.window_of-window.result.end ≤ length c.args.memory.now)
inside c allowed =
    let a = c.args in
    rw c.window_of-window.ensures.0 (window-inside a.engine (length a.memory.now) a.client allowed)

pub returns-in-Err : goal.returns-in-Err
returns-in-Err c =
    let a = c.args in
    let e = c.in-Err in
    (close-refused a.engine (length a.memory.now) a.client _ e.ensures e.refusal refl, sym (close-left a.engine a.memory.now a.client (not_zero e.refusal _ (sym e.ensures))))

pub window_of-window-requires : goal.window_of-window-requires
window_of-window-requires c =
    let a = c.args in
    let o = allowed (goal.at.window_of-window-requires c).In_default in
    client-small a.engine o.ok a.client o.owner

pub overflow_sub-size : goal.overflow_sub-size
overflow_sub-size c = (inside c (allowed (goal.at.overflow_sub-size c).In_default)).0

pub slice_bounds-clear-count : goal.slice_bounds-clear-count
slice_bounds-clear-count c = (inside c (allowed (goal.at.slice_bounds-clear-count c).In_default)).0

pub slice_bounds-clear-start : goal.slice_bounds-clear-start
slice_bounds-clear-start c = let i = inside c (allowed (goal.at.slice_bounds-clear-start c).In_default) in omega arith

pub slice_bounds-clear-end : goal.slice_bounds-clear-end
slice_bounds-clear-end c = let i = inside c (allowed (goal.at.slice_bounds-clear-end c).In_default) in omega arith

pub without_client-requires : goal.without_client-requires
without_client-requires c =
    let a = c.args in
    let o = allowed (goal.at.without_client-requires c).In_default in
    client-small a.engine o.ok a.client o.owner

pub returns : goal.returns
returns c =
    let a = c.args in
    let f = c.clear in
    let z = sym c.in_default.ensures in (
      close-done a.engine (length a.memory.now) a.client 0 c.in_default.ensures refl c.without_client.result c.without_client.ensures,
      close-made a.engine a.memory.now a.client z c.window_of-window.result c.window_of-window.ensures.0 f.new.d
          (zeros-all _ f.new.d _ (f.auto.d ∙ mid_len c.window_of-window.result.start c.window_of-window.result.end a.memory.now (inside (goal.at.returns c).After-window_of-window (allowed (goal.at.returns c).In_default)).1) f.ensures),
    )
