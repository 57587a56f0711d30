use Prim.Native.Nat.{◌*◌, ◌/◌}
use native.Mathlib.Omega.{arith}
use Rattle.lanes.proofs.bytes.Moved.{more_moved, shorter}
use borrow.Author.Rules.{rules}
use Rattle.lanes.proofs.bytes.copy_within.Goals as goal

pub copy_blocks-requires : goal.copy_blocks-requires
copy_blocks-requires c =
    (shorter _ c.args.to c.args.from c.args.n _ (omega arith) c.requires, search rules)

pub returns : goal.returns
returns c =
    let a = c.args in
    more_moved a.memory.now c.copy_blocks.new.memory c.copy_bytes.new.memory a.to a.from a.n a.to (a.n / 16 * 16) a.n c.requires
    (omega arith) (omega arith) (omega arith) (omega arith) c.copy_blocks.ensures c.copy_bytes.ensures
