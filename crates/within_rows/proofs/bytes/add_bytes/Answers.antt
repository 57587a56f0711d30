use mathlib.Core.Path.{sym, ◌∙◌}
use Prim.Native.Nat.{◌+◌}
use native.Mathlib.Omega.{arith}
use Rattle.pixel.specs.Rules.{blend_mode_factors}
use Rattle.pixel.specs.declared.blend.BlendMode.TheVariants.{Add}
use Rattle.lanes.proofs.Passes.{to_end}
use Rattle.within_rows.proofs.bytes.Within.{none_within, within-reads, byte-within}
use borrow.Author.Rules.{rules}
use Rattle.within_rows.proofs.bytes.add_bytes.Goals as goal

pub loop-j-init : goal.loop-j-init
loop-j-init c = record { same_length = search rules; added = none_within _ _ _ }

pub loop-j-preserved : goal.loop-j-preserved
loop-j-preserved c =
    let a = c.args in
    let l = c.loop-j in record {
      same_length = search rules;
      added = byte-within (blend_mode_factors Add) a.m.now l.m a.to a.from a.n l.j a.to c.requires.0 c.requires.1 (omega arith) (omega arith) (omega arith) l.invariant.added _
          (omega arith) (omega (arith, l.invariant.same_length, c.requires.0.target)) (c.held_sum.ensures ∙ sym (within-reads (blend_mode_factors Add) l.m a.to a.from l.j));
    }

pub returns : goal.returns
returns c =
    let l = c.loop-j in
    to_end _ _ _ _ (c.args.to + l.j) _ (omega arith) l.invariant.added
