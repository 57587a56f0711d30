use Prim.Native.Nat.{◌+◌}
use native.Mathlib.Omega.{arith}
use borrow.Author.Rules.{rules}
use Rattle.lanes.proofs.Passes.{none_done, to_end}
use Rattle.lanes.proofs.bytes.Moved.{rebased, more_moved}
use Rattle.lanes.proofs.bytes.copy_blocks.Goals as goal

pub loop-j-init : goal.loop-j-init
loop-j-init c = record {
  within = omega arith;
  whole_blocks = search rules;
  same_length = search rules;
  moved = to_end _ _ _ _ c.args.to _ (omega arith) (none_done _ _ _);
}

pub copy_block-requires : goal.copy_block-requires
copy_block-requires c =
    let i = c.loop-j.invariant in (
      omega (arith, c.loop-j-test.true, i.whole_blocks, i.same_length, c.requires.1, c.requires.0.target),
      omega (arith, c.loop-j-test.true, i.whole_blocks, i.same_length, c.requires.1, c.requires.0.origin),
    )

pub loop-j-preserved : goal.loop-j-preserved
loop-j-preserved c =
    let l = c.loop-j in
    let i = l.invariant in
    let a = c.args in record {
      within = omega (arith, c.loop-j-test.true, i.whole_blocks, c.requires.1);
      whole_blocks = omega (arith, i.whole_blocks);
      same_length = search rules;
      moved = more_moved a.memory.now l.memory _ a.to a.from a.n a.to l.j (l.j + 16) c.requires.0 (omega arith) (omega arith) (omega arith)
          (omega (arith, c.loop-j-test.true, i.whole_blocks, c.requires.1)) i.moved
          (rebased _ _ a.to a.from l.j _ (to_end _ _ _ _ (a.to + l.j + 16) (a.to + (l.j + 16)) (omega arith) c.copy_block.ensures));
    }

pub returns : goal.returns
returns c =
    let l = c.loop-j in
    to_end _ _ _ _ (c.args.to + l.j) _ (omega (arith, l.invariant.within)) l.invariant.moved
