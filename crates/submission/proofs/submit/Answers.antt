use mathlib.Core.Path.{◌≡◌, refl, sym, ◌∙◌}
use Prim.Native.Nat.{◌<◌}
use lib.ListN.{length}
use native.Mathlib.Omega.{arith}
use Rattle.engine_record.proofs.Added.{lowest-below}
use Rattle.engine_record.specs.Slots.{lowest_free}
use Rattle.engine_record.proofs.First.{first_some, place_is}
use Rattle.engine_record.proofs.Checking.{checked_there, counted_bytes}
use Rattle.queue.proofs.Calls.{submit-refused, submit-done}
use Rattle.queue.proofs.Refusals.{SubmitAllowed, submit-allowed}
use Rattle.queue.proofs.Room.{client-small, pending-small, submit_lies}
use Rattle.submission.proofs.submit.Goals.{After-unwrap-at, In_default}
use Rattle.submission.proofs.submit.Goals as goal

allowed : (c : In_default) → SubmitAllowed c.args.engine (length c.args.ring.now) c.args.client (length c.args.batch.now)
allowed c =
    submit-allowed c.args.engine (length c.args.ring.now) c.args.client (length c.args.batch.now) (sym c.in_default.ensures)

pub submit_refusal-requires : goal.submit_refusal-requires
submit_refusal-requires c = c.check-found.ensures.found

pub returns-in-Err : goal.returns-in-Err
returns-in-Err c =
    submit-refused c.args.engine c.args.ring.now c.args.client c.args.batch.now _ c.in-Err.ensures c.in-Err.refused refl

pub unwrap-requires : goal.unwrap-requires
unwrap-requires c = checked_there c.args.engine c.check-found.result c.check-found.ensures.found (allowed (goal.at.unwrap-requires c).In_default).ok

pub write_offset-offset-requires : goal.write_offset-offset-requires
write_offset-offset-requires c =
    let ok = (allowed (goal.at.write_offset-offset-requires c).In_default).ok in
    (ok, c.check-found.ensures.few, counted_bytes c.args.engine c.unwrap.result (sym c.unwrap.ensures ∙ c.check-found.ensures.found))

pub copy_in-requires : goal.copy_in-requires
copy_in-requires c =
    rw c.write_offset-offset.ensures (submit_lies c.args.engine c.args.ring.now c.args.client (length c.args.batch.now) (allowed (goal.at.copy_in-requires c).In_default))

pub unwrap-at-requires : goal.unwrap-at-requires
unwrap-at-requires c =
    let a = allowed (goal.at.unwrap-at-requires c).In_default in
    let e = c.args.engine in
    first_some c.lowest_free.result (lowest_free e.slots) 8 c.lowest_free.ensures (omega (arith, lowest-below e.slots (omega (arith, a.slot))))

-- the slot is the lowest that is free, one of the eight
at-is : (c : After-unwrap-at) → (c.unwrap-at.result ≡ lowest_free c.args.engine.slots) × (c.unwrap-at.result < 8)
at-is c = place_is c.lowest_free.result (lowest_free c.args.engine.slots) 8 c.lowest_free.ensures c.unwrap-at.result c.unwrap-at.ensures

pub with_batch-requires : goal.with_batch-requires
with_batch-requires c =
    let a = allowed (goal.at.with_batch-requires c).In_default in
    let e = c.args.engine in
    let d = c.args.client in
    (client-small e a.ok d a.owner, omega (arith, pending-small e a.ok d a.owner, a.slot), (at-is (goal.at.with_batch-requires c).After-unwrap-at).1)

pub returns : goal.returns
returns c =
    let e = c.args in
    let w = c.write_offset-offset in
    submit-done e.engine e.ring.now e.client e.batch.now 0 c.in_default.ensures refl c.with_batch.result _
    (rw (w.ensures, (at-is (goal.at.returns c).After-unwrap-at).0) at c.with_batch.ensures)
    (rw w.ensures at c.copy_in.ensures)
