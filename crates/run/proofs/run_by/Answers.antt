use mathlib.Core.Path.{◌≡◌, sym, ap, ◌∙◌}
use native.Mathlib.Omega.{arith}
use lib.ListN.{length}
use Prim.Native.Nat.{◌<◌}
use Rattle.ring.specs.Segment.{batch_words}
use Rattle.engine_record.specs.declared.Batch.{Batch}
use Rattle.engine_record.proofs.Checking.{checked_there, counted_ready}
use Rattle.engine_record.proofs.First.{first_some, place_is}
use Rattle.engine_record.specs.Tickets.{slot_of_ticket}
use Rattle.engine.specs.Run.{oldest, oldest_ticket}
use Rattle.engine.proofs.Oldest.{slot_below, owner_small, oldest-room}
use Rattle.engine.proofs.Refusals.{RunAllowed, run-allowed}
use Rattle.engine.proofs.Calls.{run-refused, run-made}
use Rattle.run.proofs.run_by.Goals.{After-batch_of-batch, After-unwrap-at, In_default}
use Rattle.run.proofs.run_by.Goals as goal

allowed : (c : In_default) → RunAllowed c.args.engine (length c.args.ring.now) (length c.args.memory.now)
allowed c =
    let a = c.args in run-allowed a.engine (length a.ring.now) (length a.memory.now) (sym c.in_default.ensures)

-- the slot is that of the oldest, one of the eight
slot : (c : After-unwrap-at) → (c.unwrap-at.result ≡ slot_of_ticket (oldest_ticket c.args.engine) c.args.engine.slots) × (c.unwrap-at.result < 8)
slot c = place_is c.oldest_slot.result (slot_of_ticket (oldest_ticket c.args.engine) c.args.engine.slots) 8 c.oldest_slot.ensures c.unwrap-at.result c.unwrap-at.ensures

-- its batch is the oldest
taken : (c : After-batch_of-batch) → c.batch_of-batch.result ≡ oldest c.args.engine
taken c = c.batch_of-batch.ensures ∙ rw (place_is c.oldest_slot.result (slot_of_ticket (oldest_ticket c.args.engine) c.args.engine.slots) 8 c.oldest_slot.ensures c.unwrap-at.result c.unwrap-at.ensures).0

pub run_refusal-requires : goal.run_refusal-requires
run_refusal-requires c = c.check-found.ensures.found

pub returns-in-Err : goal.returns-in-Err
returns-in-Err c =
    let a = c.args in
    run-refused a.engine a.ring.now a.memory.now c.in-Err.refusal c.in-Err.ensures

pub unwrap-requires : goal.unwrap-requires
unwrap-requires c = checked_there c.args.engine c.check-found.result c.check-found.ensures.found (allowed (goal.at.unwrap-requires c).In_default).ok

pub oldest_slot-requires : goal.oldest_slot-requires
oldest_slot-requires c = (c.check-found.ensures.few, counted_ready c.args.engine c.unwrap.result (sym c.unwrap.ensures ∙ c.check-found.ensures.found))

pub unwrap-at-requires : goal.unwrap-at-requires
unwrap-at-requires c =
    let a = allowed (goal.at.unwrap-at-requires c).In_default in
    first_some c.oldest_slot.result (slot_of_ticket (oldest_ticket c.args.engine) c.args.engine.slots) 8 c.oldest_slot.ensures (slot_below c.args.engine a.ok a.some (omega arith))

pub bounds-engine-at : goal.bounds-engine-at
bounds-engine-at c = (slot (goal.at.bounds-engine-at c).After-unwrap-at).1

pub bounds_for-bounds-requires : goal.bounds_for-bounds-requires
bounds_for-bounds-requires c =
    let a = allowed (goal.at.bounds_for-bounds-requires c).In_default in
    let one = owner_small c.args.engine a.ok a.some in
    omega (arith, ap (λ (b : Batch). b.client) (taken c))

pub run_batch-verdict-requires : goal.run_batch-verdict-requires
run_batch-verdict-requires c =
    let f = c.bounds_for-bounds in
    let a = allowed (goal.at.run_batch-verdict-requires c).In_default in
    oldest-room c.args.engine a.ok a.some _ a.memory c.batch_of-batch.result (taken (goal.at.run_batch-verdict-requires c).After-batch_of-batch) f.result f.ensures.0

pub without_oldest-requires : goal.without_oldest-requires
without_oldest-requires c =
    let a = allowed (goal.at.without_oldest-requires c).In_default in
    (a.ok, a.some, c.bounds_for-bounds.ensures.1, omega arith, (slot (goal.at.without_oldest-requires c).After-unwrap-at).0, taken (goal.at.without_oldest-requires c).After-batch_of-batch)

pub returns : goal.returns
returns c =
    let f = c.bounds_for-bounds in
    let b = c.batch_of-batch.result in
    let w : batch_words c.new.result.ring.now c.new.result.offset c.new.result.size ≡ batch_words c.args.ring.now b.offset b.length = rw (c.new.ensures.0, c.new.ensures.1, c.new.ensures.2) in
    let d = rw w at c.run_batch-verdict.ensures in
    let r = c.bank_for in
    run-made c.args.engine c.args.ring.now c.args.memory.now (sym c.in_default.ensures)
    b (taken (goal.at.returns c).After-batch_of-batch) f.result f.ensures.0 r.result r.ensures
    c.run_batch-verdict.result d.0 c.without_oldest.result c.without_oldest.ensures _ d.1
