use Rattle.pixel.specs.Rules.{blend_mode_factors}
use Rattle.pixel.specs.declared.blend.BlendMode.TheVariants.{SrcOver}
use Rattle.plan.proofs.Blends.{Bytes}
use Rattle.combine.proofs.Fours.{blend_two, four-done}
use mathlib.Core.Path.{◌∙◌}
use native.Mathlib.Omega.{arith}
use Rattle.combine.proofs.over_four.Goals as goal

pub returns : goal.returns
returns c =
    let in-s : Bytes c.args.s.now = λ j. omega (arith, c.shared_slice_known-1.given j) in
    let in-d : Bytes c.args.d.now = λ j. omega (arith, c.slice_known-1.given j) in
    four-done (blend_mode_factors SrcOver) _ _ c.over8-r.result c.store8.new.d c.args.o c.requires.1 in-s in-d
    (λ k l. c.over8-r.ensures k l ∙ blend_two c.args.s.now c.args.d.now c.load8-a.result c.load8-b.result c.args.o c.load8-b.ensures (blend_mode_factors SrcOver) c.load8-a.ensures k l)
    c.store8.ensures.low c.store8.ensures.high c.store8.ensures.under c.store8.ensures.past
