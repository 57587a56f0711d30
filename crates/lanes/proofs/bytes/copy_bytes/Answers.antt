use native.Mathlib.Omega.{arith}
use Prim.Native.Nat.{◌+◌}
use borrow.Author.Rules.{rules}
use Rattle.lanes.proofs.Passes.{none_done, to_end}
use Rattle.lanes.proofs.bytes.Moved.{rebased, more_moved, one_moved}
use Rattle.lanes.proofs.bytes.copy_bytes.Goals as goal

pub loop-j-init : goal.loop-j-init
loop-j-init c = record { same_length = search rules; moved = none_done _ _ _ }

pub loop-j-preserved : goal.loop-j-preserved
loop-j-preserved c =
    let a = c.args in
    let m = c.loop-j.memory in
    let j = c.loop-j.j in record {
      same_length = search rules;
      moved = more_moved a.memory.now m _ a.to a.from a.n (a.to + a.a) j (j + 1) c.requires.0 (omega arith) (omega arith) (omega arith) (omega arith) c.loop-j.invariant.moved
          (rebased m _ a.to a.from j _ (to_end _ m _ (a.to + j) (a.to + j + 1) (a.to + (j + 1)) (omega arith) (one_moved m (a.to + j) (a.from + j) (omega (arith, c.loop-j.invariant.same_length, c.requires.0.target)))));
    }

pub returns : goal.returns
returns c = to_end _ _ _ _ (c.args.to + c.loop-j.j) _ (omega arith) c.loop-j.invariant.moved
