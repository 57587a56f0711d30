use mathlib.Core.Path.{◌≡◌}
use Prim.Native.Nat.{ℕ, ◌+◌, ◌-◌, ◌*◌, ◌/◌, ◌%◌, ◌^◌}
use native.Mathlib.Nat.{one-mul, mod-lt, lt_of_lt_of_le, pow-le-pow_right}
use native.Mathlib.Omega.{arith}
use lib.Dec.{lit<}
use lib.Pow.{shl_exact, pow_pos}
use Rattle.word.proofs.bits.Goals.{Start}
use Rattle.word.proofs.bits.Goals as goal

-- how many bits the field has
abbrev width : Start → ℕ
width c = c.args.hi + 1 - c.args.lo

-- 1 shifted by that many places loses nothing
modulus : (c : Start) → 1 * 2 ^ width c % 18446744073709551616 ≡ 2 ^ width c
modulus c = rw (shl_exact {a = 1} 1 (width c) 64 (lit< tt) (omega arith), one-mul)

pub nonzero_rem-result : goal.nonzero_rem-result
nonzero_rem-result c = rw (modulus c) (pow_pos (width c))

pub overflow_cast-result-4 : goal.overflow_cast-result-4
overflow_cast-result-4 c =
    rw (modulus c)
    (record { fits = lt_of_lt_of_le (mod-lt (c.args.word / 2 ^ c.args.lo) (pow_pos (width c))) (pow-le-pow_right (lit< tt) {j = 32} (omega arith)) })

pub returns : goal.returns
returns c = rw (modulus c)
