use mathlib.Core.Path.{refl, ◌∙◌}
use Prim.Native.Nat.{◌+◌}
use native.Mathlib.Omega.{arith}
use lib.ListN.{length}
use Rattle.pixel.specs.Rules.{blend_mode_factors}
use Rattle.pixel.specs.declared.blend.BlendMode.TheVariants.{SrcOver}
use Rattle.lanes.proofs.Passes.{to_end}
use Rattle.within_rows.proofs.bytes.Within.{none_within, four-within, apart_part}
use borrow.Author.Rules.{rules}
use Rattle.within_rows.proofs.blend.over_turns.Goals as goal

pub loop-o-init : goal.loop-o-init
loop-o-init c = (search rules, refl, none_within _ _ _)

pub over_turn-requires : goal.over_turn-requires
over_turn-requires c =
    let l = c.loop-o in
    let a = c.args in
    apart_part (length a.m.now) _ a.to a.from a.n _ _ l.o 16 c.requires.0 l.invariant.1 refl refl (omega (arith, c.loop-o-test.true, l.invariant.0.1, c.requires.1))

pub loop-o-preserved : goal.loop-o-preserved
loop-o-preserved c =
    let l = c.loop-o in
    let a = c.args in (
      (omega arith, omega (arith, l.invariant.0.1)),
      c.over_turn.auto.m ∙ l.invariant.1,
      four-within (blend_mode_factors SrcOver) a.m.now l.m a.to a.from a.n l.o a.to c.requires.0 (omega (arith, c.requires.1)) l.invariant.0.0 (omega arith) (omega arith) l.invariant.2 c.over_turn.new.m
          (omega (arith, l.invariant.0.1)) (omega (arith, c.loop-o-test.true, l.invariant.0.1, c.requires.1)) c.over_turn.ensures,
    )

pub returns : goal.returns
returns c =
    let l = c.loop-o in
    to_end _ _ _ _ (c.args.to + l.o) _ (omega arith) l.invariant.2
