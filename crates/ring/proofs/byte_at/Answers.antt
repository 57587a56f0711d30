use mathlib.Core.Path.{◌≡◌, sym}
use Prim.Native.Nat.{ℕ, ◌+◌, ◌-◌}
use native.Mathlib.Omega.{arith}
use lib.ListN.{length}
use Rattle.ring.proofs.Segment.{segment-front, segment-back}
use Rattle.ring.proofs.byte_at.Goals as goal

pub returns-then-i-tail : goal.returns-then-i-tail
returns-then-i-tail c =
    let a = c.args in
    let n : ℕ = length a.ring.now in
    sym (segment-front a.ring.now a.offset n (record { starts = omega arith; fits = omega arith }) a.i (omega arith) (omega arith))

pub returns-else-i-tail : goal.returns-else-i-tail
returns-else-i-tail c =
    let a = c.args in
    let n : ℕ = length a.ring.now in
    let e : a.offset + a.i - n ≡ a.i - (n - a.offset) = omega arith in
    rw e at (sym (segment-back a.ring.now a.offset n (record { starts = omega arith; fits = omega arith }) a.i (omega arith) (omega arith)))
