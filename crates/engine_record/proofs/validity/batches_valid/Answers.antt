use Rattle.std.proofs.Common.{◌≡◌, ℕ, Bool, ◌+◌, ◌-◌, ◌<◌, ◌≤◌, true, not, ◌&&◌, ◌==◌, nat_le, sym, ◌∙◌, arith}
use borrow.Author.Tests.{not-true, not-false}
use Rattle.engine_record.proofs.Slots.{ready_most}
use Rattle.engine_record.proofs.Walk.{walk, walk-missing, walk_unfit, walk-next, walk-done, Fitting, fitting, fits_in, walk-rules}
use Rattle.engine_record.specs.Clients.{is_open}
use Rattle.engine_record.specs.Rules.{batch_rules}
use Rattle.engine_record.specs.Setup.{bad_length}
use Rattle.engine_record.specs.declared.Batch.{Batch}
use Rattle.engine_record.specs.declared.EngineRecord.{EngineRecord}
use Rattle.ring.specs.Segment.{wrap_offset}
use Rattle.ring.proofs.Wrapped.{wrapped_below}
use Rattle.engine_record.proofs.validity.batches_valid.Goals.{Else-not-fits_in, Start}
use Rattle.engine_record.proofs.validity.batches_valid.Goals as goal

-- the walk from the start on decides the rules
decided : (c : Start) →
    walk c.args.engine.now.setup.ring (is_open c.args.engine.now) c.args.ready c.args.engine.now.next_ticket c.args.engine.now.slots c.args.engine.now.read_offset c.args.engine.now.setup.ring
    ≡ batch_rules c.args.engine.now
decided c = rw c.requires.2 (walk-rules c.args.engine.now _ _ _ _ _ _)

-- what the test of a batch gives, where `owned` says whether its client is open
fits-answer : (engine : EngineRecord) (offset room : ℕ) (b : Batch) (owned answer : Bool) → owned ≡ is_open engine b.client
    → answer ≡ (b.offset == offset && not (bad_length engine.setup.ring b.length) && nat_le b.length room && owned) → answer ≡ fits_in engine.setup.ring (is_open engine) offset room b
fits-answer engine offset room b owned answer o f = f ∙ rw o

fit : (c : Else-not-fits_in) → let engine = c.args.engine.now in
    fits_in engine.setup.ring (is_open engine) c.loop-k.offset c.loop-k.room c.batch_of-b.result ≡ true
fit c = sym (fits-answer c.args.engine.now c.loop-k.offset c.loop-k.room c.batch_of-b.result _ _ c.is_open-owned.ensures c.fits_in.ensures) ∙ not-false _ c.if-not-fits_in.false-raw

fits : (c : Else-not-fits_in) → let engine = c.args.engine.now in
    Fitting engine.setup.ring (is_open engine) c.loop-k.offset c.loop-k.room c.batch_of-b.result
fits c = fitting _ _ _ _ _ (fit c)

-- past a batch that fits in the room, the next offset and the room that is left
offset-below : (ring offset size room next : ℕ) → offset < ring → size ≤ room → room ≤ ring → next ≡ wrap_offset ring (offset + size) → next < ring
offset-below ring offset size room next o f r e = rw e (wrapped_below ring (offset + size) (omega arith))

room_most : (ring size room : ℕ) → room ≤ ring → room - size ≤ ring
room_most ring size room r = omega arith

pub slot_of_age-requires : goal.slot_of_age-requires
slot_of_age-requires c = omega (arith, ready_most c.args.engine.now.slots, c.requires.2)

pub returns-in_default : goal.returns-in_default
returns-in_default c =
    walk-missing _ _ _ _ _ _ _ c.loop-k-test.true _ (sym c.in_default.ensures) (omega arith) ∙ c.loop-k.invariant.2 ∙ decided (goal.at.returns-in_default c).Start

pub returns-then-not-fits_in : goal.returns-then-not-fits_in
returns-then-not-fits_in c =
    let j = c.batch_of-b in
    let e = sym (fits-answer c.args.engine.now c.loop-k.offset c.loop-k.room c.batch_of-b.result _ _ c.is_open-owned.ensures c.fits_in.ensures) ∙ not-true _ c.if-not-fits_in.true-raw in
    walk_unfit _ _ _ _ _ _ _ c.loop-k-test.true c.in-Some.i c.in-Some.ensures.0 (omega (arith, c.in-Some.ensures.1)) j.result j.ensures e ∙ c.loop-k.invariant.2 ∙ decided (goal.at.returns-then-not-fits_in c).Start

pub overflow_add-offset : goal.overflow_add-offset
overflow_add-offset c = let f = (fits (goal.at.overflow_add-offset c).Else-not-fits_in).within in omega arith

pub overflow_sub-room : goal.overflow_sub-room
overflow_sub-room c = (fits (goal.at.overflow_sub-room c).Else-not-fits_in).within

pub loop-k-preserved : goal.loop-k-preserved
loop-k-preserved c =
    let l = c.loop-k in
    let j = c.batch_of-b in (
      offset-below _ l.offset j.result.length l.room _ l.invariant.0 (fits (goal.at.loop-k-preserved c).Else-not-fits_in).within l.invariant.1 c.wrap_offset-offset.ensures,
      room_most _ j.result.length l.room l.invariant.1,
      walk-next _ _ _ _ _ _ _ c.loop-k-test.true c.in-Some.i c.in-Some.ensures.0 (omega (arith, c.in-Some.ensures.1)) j.result j.ensures (fit (goal.at.loop-k-preserved c).Else-not-fits_in) c.wrap_offset-offset.result c.wrap_offset-offset.ensures ∙ l.invariant.2,
    )

pub returns : goal.returns
returns c = walk-done _ _ _ _ _ _ _ (omega arith) ∙ c.loop-k.invariant.2 ∙ decided (goal.at.returns c).Start
