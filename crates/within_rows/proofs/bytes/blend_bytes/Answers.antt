use mathlib.Core.Path.{sym, ◌∙◌}
use Prim.Native.Nat.{◌+◌}
use native.Mathlib.Omega.{arith}
use Rattle.lanes.proofs.Passes.{none_done, to_end}
use Rattle.within_rows.proofs.bytes.Within.{within-reads, byte-within}
use borrow.Author.Rules.{rules}
use Rattle.within_rows.proofs.bytes.blend_bytes.Goals as goal

pub loop-j-init : goal.loop-j-init
loop-j-init c = record { same_length = search rules; blended = none_done _ _ _ }

pub loop-j-preserved : goal.loop-j-preserved
loop-j-preserved c =
    let a = c.args in
    let l = c.loop-j in record {
      same_length = search rules;
      blended = byte-within a.p.rule a.m.now l.m a.to a.from a.n l.j (a.to + a.a) c.requires.0 c.requires.1.1 (omega arith) (omega arith) (omega arith) l.invariant.blended _
          (omega arith) (omega (arith, l.invariant.same_length, c.requires.0.target)) (c.blend_one.ensures ∙ sym (within-reads a.p.rule l.m a.to a.from l.j));
    }

pub returns : goal.returns
returns c =
    let l = c.loop-j in
    to_end _ _ _ _ (c.args.to + l.j) _ (omega arith) l.invariant.blended
