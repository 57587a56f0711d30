use native.Mathlib.Omega.{arith}
use Rattle.combine.proofs.constant.Rows.{copied_by, left_by}
use Rattle.combine.proofs.constant.row_by_factors.Goals as goal

pub returns-then-fs-fd : goal.returns-then-fs-fd
returns-then-fs-fd c =
    copied_by c.args.s.now c.args.d.now _ _ _ _ (λ j. omega (arith, c.shared_slice_known-1.given j)) c.if-fs-fd.true c.copy.ensures

pub returns-then-fs-fd-2 : goal.returns-then-fs-fd-2
returns-then-fs-fd-2 c =
    left_by c.args.s.now c.args.d.now _ _ _ (λ j. omega (arith, c.slice_known-1.given j)) c.if-fs-fd-2.true
