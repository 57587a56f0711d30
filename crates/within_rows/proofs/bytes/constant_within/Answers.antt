use native.Mathlib.Omega.{arith}
use Rattle.plan.proofs.Factors.{source-whole, source-nothing, destination-whole, destination-nothing}
use Rattle.within_rows.proofs.bytes.Constant.{added-within, copied-within, cleared_within, left-within}
use Rattle.within_rows.proofs.bytes.constant_within.Goals as goal

pub returns-then-fd-eq255 : goal.returns-then-fd-eq255
returns-then-fd-eq255 c =
    let a = c.args in
    let k = c.requires.1 in
    added-within a.p.rule a.m.now _ a.to a.from a.n
    (source-whole a.p k c.if-fs-eq255.true) (destination-whole a.p k c.if-fd-eq255.true) c.add_bytes.ensures

pub returns-then-fs-eq255 : goal.returns-then-fs-eq255
returns-then-fs-eq255 c =
    let a = c.args in
    let k = c.requires.1 in
    copied-within a.p.rule a.m.now _ a.to a.from a.n (λ j. omega (arith, c.slice_known-1.given j))
    (source-whole a.p k c.if-fs-eq255.true) (destination-nothing a.p k c.if-fd-eq255.false) c.copy_within.ensures

pub returns-then-fd-eq255-2 : goal.returns-then-fd-eq255-2
returns-then-fd-eq255-2 c =
    let a = c.args in
    let k = c.requires.1 in
    left-within a.p.rule a.m.now a.to a.from a.n (λ j. omega (arith, c.slice_known-1.given j))
    (source-nothing a.p k c.if-fs-eq255.false) (destination-whole a.p k c.if-fd-eq255-2.true)

pub returns : goal.returns
returns c =
    let a = c.args in
    let k = c.requires.1 in
    cleared_within a.p.rule a.m.now _ a.to a.from a.n
    (source-nothing a.p k c.if-fs-eq255.false) (destination-nothing a.p k c.if-fd-eq255-2.false) c.clear.ensures
