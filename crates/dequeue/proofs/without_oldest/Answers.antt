use native.Mathlib.Omega.{arith}
use Rattle.engine.proofs.Oldest.{Takes, takes, without_made}
use Rattle.dequeue.proofs.without_oldest.Goals.{Start}
use Rattle.dequeue.proofs.without_oldest.Goals as goal

facts : (c : Start) → Takes c.args.engine
facts c = takes c.args.engine c.requires.0 c.requires.1 c.requires.2 c.requires.3

pub lower_pending-fewer-requires : goal.lower_pending-fewer-requires
lower_pending-fewer-requires c =
    rw c.requires.5 ((facts (goal.at.lower_pending-fewer-requires c).Start).client, (facts (goal.at.lower_pending-fewer-requires c).Start).counted)

pub with_slot_free-left-requires : goal.with_slot_free-left-requires
with_slot_free-left-requires c =
    omega (arith, (facts (goal.at.with_slot_free-left-requires c).Start).slot, c.requires.4)

pub overflow_add-engine : goal.overflow_add-engine
overflow_add-engine c =
    rw c.requires.5 (omega (arith, (facts (goal.at.overflow_add-engine c).Start).offset))

pub returns : goal.returns
returns c =
    let l = c.lower_pending-fewer in
    let f = c.with_slot_free-left in
    without_made c.args.engine c.args.at c.requires.4 c.args.batch c.requires.5 l.result l.ensures f.result f.ensures c.wrap_offset.result c.wrap_offset.ensures
