use Rattle.plan.proofs.Factors.{source_is, destination-is, source-small, destination-small}
use borrow.Author.Rules.{rules}
use mathlib.Core.Path.{◌∙◌}
use native.Mathlib.Omega.{arith}
use Prim.Native.Nat.{◌≤◌}
use Rattle.plan.proofs.channels.blend_one.Goals as goal

pub mix_one-requires : goal.mix_one-requires
mix_one-requires c =
    let h : c.args.x ≤ 255 = search rules in
    let k : c.args.y ≤ 255 = search rules in
    (omega (arith, c.factor.ensures, source-small c.args.p _ _ h k), omega (arith, c.factor-2.ensures, destination-small c.args.p _ _ h k))

pub returns : goal.returns
returns c =
    let h : c.args.x ≤ 255 = search rules in
    let k : c.args.y ≤ 255 = search rules in
    c.mix_one.ensures ∙ cc (c.factor.ensures, c.factor-2.ensures, source_is c.args.p _ _ h k, destination-is c.args.p _ _ h k)
