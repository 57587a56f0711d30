use native.Mathlib.Omega.{arith}
use Rattle.plan.proofs.Factors.{source-whole, source-nothing, destination-whole, destination-nothing}
use Rattle.combine.proofs.constant.Rows.{added-row, copied-row, cleared_row, left-row}
use Rattle.combine.proofs.constant.constant_row.Goals as goal

pub returns-then-fd-eq255 : goal.returns-then-fd-eq255
returns-then-fd-eq255 c =
    let p = c.args.p in
    let k = c.requires.1 in
    added-row p.rule c.args.s.now c.args.d.now _ _
    (source-whole p k c.if-fs-eq255.true) (destination-whole p k c.if-fd-eq255.true) c.add_bytes.ensures

pub returns-then-fs-eq255 : goal.returns-then-fs-eq255
returns-then-fs-eq255 c =
    let p = c.args.p in
    let k = c.requires.1 in
    copied-row p.rule c.args.s.now c.args.d.now _ _ (λ j. omega (arith, c.shared_slice_known-1.given j))
    (source-whole p k c.if-fs-eq255.true) (destination-nothing p k c.if-fd-eq255.false) c.copy.ensures

pub returns-then-fd-eq255-2 : goal.returns-then-fd-eq255-2
returns-then-fd-eq255-2 c =
    let p = c.args.p in
    let k = c.requires.1 in
    left-row p.rule c.args.s.now c.args.d.now _ (λ j. omega (arith, c.slice_known-1.given j))
    (source-nothing p k c.if-fs-eq255.false) (destination-whole p k c.if-fd-eq255-2.true)

pub returns : goal.returns
returns c =
    let p = c.args.p in
    let k = c.requires.1 in
    cleared_row p.rule c.args.s.now c.args.d.now _ _
    (source-nothing p k c.if-fs-eq255.false) (destination-nothing p k c.if-fd-eq255-2.false) c.clear.ensures
