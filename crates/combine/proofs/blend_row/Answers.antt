use Rattle.plan.proofs.Blends.{by_rule, part_more}
use Rattle.plan.proofs.Factors.{over-is}
use Prim.Native.Nat.{◌*◌, ◌/◌}
use native.Mathlib.Omega.{arith}
use lib.ListN.{length}
use Rattle.combine.proofs.blend_row.Goals as goal

pub returns-then-p : goal.returns-then-p
returns-then-p c =
    part_more c.args.p.rule c.args.s.now c.args.d.now c.over_turns.new.d _ 0 (length c.args.d.now / 16 * 16) (length c.args.d.now) (omega arith) (omega arith)
    (by_rule _ _ _ _ _ _ _ (over-is c.args.p c.if-p.true) c.over_turns.ensures) c.blend_bytes.ensures

pub returns-then-p-2 : goal.returns-then-p-2
returns-then-p-2 c = c.constant_row.ensures

pub returns : goal.returns
returns c =
    part_more c.args.p.rule c.args.s.now c.args.d.now c.turns.new.d _ 0 (length c.args.d.now / 16 * 16) (length c.args.d.now) (omega arith) (omega arith) c.turns.ensures c.blend_bytes-2.ensures
