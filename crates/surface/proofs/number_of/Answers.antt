use mathlib.Core.Path.{◌≡◌}
use Prim.Native.Nat.{ℕ, suc, ◌-◌, ◌^◌, ◌≤◌, ◌<◌}
use native.Mathlib.Omega.{arith}
use native.Mathlib.Nat.{lt_of_lt_of_le, pow-le-pow_right, pow-suc}
use lib.ListN.{length}
use lib.Seq.{drop-length}
use Rattle.surface.proofs.Pixels.{number_step}
use lib.Dec.{lit<}
use Rattle.surface.proofs.number_of.Goals as goal

-- the bytes so far leave room for one more
room : (sum n k : ℕ) → n ≤ 4 → 0 < k → k ≤ n → sum < 256 ^ (n - k) → sum < 256 ^ 3
room sum n k most some up h =
    let l : n - k ≤ 3 = omega arith in
    lt_of_lt_of_le h (pow-le-pow_right (lit< tt) l)

pub loop-k-init : goal.loop-k-init
loop-k-init c =
    let z : length c.args.bytes.now - length c.args.bytes.now ≡ 0 = omega arith in
    (rw (drop-length c.args.bytes.now), rw z (lit< tt))

pub overflow_mul-sum : goal.overflow_mul-sum
overflow_mul-sum c =
    let l = c.loop-k in
    omega (arith, room l.sum (length c.args.bytes.now) l.k c.requires (omega arith) (omega arith) l.invariant.1)

pub overflow_add-sum : goal.overflow_add-sum
overflow_add-sum c =
    let l = c.loop-k in
    omega (arith, room l.sum (length c.args.bytes.now) l.k c.requires (omega arith) (omega arith) l.invariant.1, c.type_inv.bytes (l.k - 1))

pub loop-k-preserved : goal.loop-k-preserved
loop-k-preserved c =
    let l = c.loop-k in
    let bytes = c.args.bytes.now in
    let m : length bytes - (l.k - 1) ≡ suc (length bytes - l.k) = omega arith in
    (omega (arith, number_step bytes l.k (omega arith) (omega arith)), rw (m, pow-suc) (omega (arith, c.type_inv.bytes (l.k - 1))))
