use Rattle.plan.proofs.Factors.{source_is, destination-is, source-small, destination-small, source-apart, destination-apart}
use Rattle.combine.proofs.constant.Rows.{constant_alpha-row}
use mathlib.Core.Path.{sym, ◌∙◌}
use borrow.Author.Rules.{rules}
use Prim.Native.Nat.{◌≤◌}
use native.Mathlib.Omega.{arith}
use Rattle.combine.proofs.constant.constant_alpha_row.Goals as goal

pub row_by_factors-requires : goal.row_by_factors-requires
row_by_factors-requires c =
    let p = c.args.p in
    let x : c.args.alpha ≤ 255 = search rules in
    (c.requires.0.0, (omega (arith, c.factor.ensures, source-small p _ 0 x (omega arith)), omega (arith, c.factor-2.ensures, destination-small p _ 0 x (omega arith))))

pub returns : goal.returns
returns c =
    let p = c.args.p in
    let x : c.args.alpha ≤ 255 = search rules in
    let fs = c.factor.ensures ∙ source_is p _ 0 x (omega arith) in
    let fd = c.factor-2.ensures ∙ destination-is p _ 0 x (omega arith) in
    constant_alpha-row p.rule _ _ _ _ _ _ _ c.requires.0.1
    (λ y. source-apart p c.requires.1.0 _ y 0 ∙ sym fs) (λ y. destination-apart p c.requires.1.1 _ y 0 ∙ sym fd) c.row_by_factors.ensures
