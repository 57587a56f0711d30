use Rattle.combine.proofs.Fours.{blend_two, four-done}
use mathlib.Core.Path.{◌∙◌}
use native.Mathlib.Omega.{arith}
use Rattle.combine.proofs.blend_four.Goals as goal

pub returns : goal.returns
returns c =
    four-done c.args.p.rule _ _ c.blend8-r.result c.store8.new.d c.args.o c.requires.1 (λ j. omega (arith, c.shared_slice_known-1.given j)) (λ j. omega (arith, c.slice_known-1.given j))
    (λ k l. c.blend8-r.ensures k l ∙ blend_two c.args.s.now c.args.d.now c.load8-a.result c.load8-b.result c.args.o c.load8-b.ensures c.args.p.rule c.load8-a.ensures k l)
    c.store8.ensures.low c.store8.ensures.high c.store8.ensures.under c.store8.ensures.past
