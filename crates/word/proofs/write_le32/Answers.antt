use mathlib.Core.Path.{◌≡◌}
use Prim.Native.Nat.{suc, ◌+◌, ◌/◌, ◌%◌}
use native.Mathlib.Omega.{arith}
use Rattle.word.specs.Word.{byte_of, le_bytes}
use Rattle.word.proofs.Splice.{sets-spliced}
use Rattle.word.proofs.write_le32.Goals as goal

pub returns : goal.returns
unfolding le_bytes byte_of
returns c =
    let at = c.args.at in
    let e1 : at + 1 ≡ suc at = omega arith in
    let e2 : at + 2 ≡ suc (suc at) = omega arith in
    let e3 : at + 3 ≡ suc (suc (suc at)) = omega arith in
    let lowest : c.args.word / 1 % 256 ≡ c.args.word % 256 = omega arith in
    rw (c.to_le_bytes.ensures, ← lowest, e3, e2, e1) (sets-spliced at (le_bytes c.args.word) c.args.bytes.now (omega arith))
