use mathlib.Core.Path.{refl}
use Prim.Native.Nat.{ℕ, ◌*◌, ◌/◌}
use native.Mathlib.Omega.{arith}
use lib.ListN.{length}
use Rattle.plan.proofs.Factors.{over-is}
use Rattle.within_rows.proofs.bytes.Within.{rest-within, by_rule, apart_part}
use Rattle.within_rows.proofs.blend.blend_within.Goals as goal

pub over_turns-requires : goal.over_turns-requires
over_turns-requires c =
    let a = c.args in
    let m = length a.m.now in
    (apart_part m m a.to a.from a.n a.to a.from 0 (a.n / 16 * 16) c.requires.0 refl (omega arith) (omega arith) (omega arith), omega arith)

pub blend_bytes-requires : goal.blend_bytes-requires
blend_bytes-requires c =
    let a = c.args in
    let m = length a.m.now in
    (apart_part m _ a.to a.from a.n a.to a.from 0 a.n c.requires.0 c.over_turns.auto.m (omega arith) (omega arith) (omega arith), (omega arith, c.requires.1))

pub returns-then-p : goal.returns-then-p
returns-then-p c =
    let a = c.args in
    let m = a.m.now in
    let e : ℕ = a.n / 16 * 16 in
    rest-within a.p.rule m c.over_turns.new.m a.to a.from a.n e a.to c.requires.0 c.requires.1 (omega arith) (omega arith) (omega arith)
    (by_rule _ _ _ _ _ _ e (over-is a.p c.if-p.true) c.over_turns.ensures) _ c.blend_bytes.ensures
