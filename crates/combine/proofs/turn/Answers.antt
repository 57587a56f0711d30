use Rattle.combine.proofs.Fours.{copy_done, leave_done}
use Rattle.lanes.proofs.Laws.{both}
use Rattle.lanes.proofs.opacity.Sums.{full_sum, empty-sum}
use Rattle.plan.proofs.Blends.{Bytes}
use Rattle.plan.proofs.Factors.{copies_is, leaves-is}
use mathlib.Core.Path.{sym, ◌∙◌}
use native.Mathlib.Omega.{arith}
use Rattle.combine.proofs.turn.Goals as goal

pub returns-then-is_opaque-p : goal.returns-then-is_opaque-p
returns-then-is_opaque-p c =
    let a = c.args in
    let in-s : Bytes a.s.now = λ j. omega (arith, c.shared_slice_known-1.given j) in
    let t = both _ _ c.if-is_opaque-p.true in
    copy_done a.p.rule a.s.now a.d.now _ a.o c.requires.1 in-s (λ j. omega (arith, c.slice_known-1.given j))
    (copies_is a.p t.1) (sym (full_sum a.s.now a.o _ in-s c.alphas-t.ensures) ∙ (sym c.is_opaque.ensures ∙ t.0)) c.copy.ensures

pub returns-then-t-p : goal.returns-then-t-p
returns-then-t-p c =
    let a = c.args in
    let in-s : Bytes a.s.now = λ j. omega (arith, c.shared_slice_known-1.given j) in
    let t = both _ _ c.if-t-p.true in
    leave_done a.p.rule a.s.now a.d.now a.d.now a.o c.requires.1 in-s (λ j. omega (arith, c.slice_known-1.given j))
    (leaves-is a.p t.1) (sym (empty-sum a.s.now a.o _ in-s c.alphas-t.ensures) ∙ t.0)

pub returns : goal.returns
returns c = c.blend_four.ensures
