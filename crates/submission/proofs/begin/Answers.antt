use mathlib.Core.Path.{refl}
use lib.ListN.{length}
use mathlib.Core.Path.{sym, ◌∙◌}
use native.Mathlib.Omega.{arith}
use Rattle.engine_record.specs.Slots.{lowest_free}
use Rattle.engine_record.proofs.Added.{lowest-below}
use Rattle.engine_record.proofs.First.{first_some, place_is}
use Rattle.queue.proofs.Refusals.{submit-allowed}
use Rattle.queue.proofs.Calls.{begin-refused, begin-done}
use Rattle.submission.proofs.begin.Goals as goal

pub submit_refusal-requires : goal.submit_refusal-requires
submit_refusal-requires c = c.check-found.ensures.found

pub returns-in-Err : goal.returns-in-Err
returns-in-Err c = let e = c.args in
    begin-refused e.engine (length e.ring.now) e.client e.total _ c.in-Err.ensures c.in-Err.refusal refl

-- the slot is the lowest that is free
pub unwrap-at-requires : goal.unwrap-at-requires
unwrap-at-requires c =
    let e = c.args in
    let a = submit-allowed e.engine (length e.ring.now) e.client e.total (sym c.in_default.ensures) in
    first_some c.lowest_free.result (lowest_free e.engine.slots) 8 c.lowest_free.ensures (omega (arith, lowest-below e.engine.slots (omega (arith, a.slot))))

pub returns : goal.returns
returns c =
    let at = place_is c.lowest_free.result (lowest_free c.args.engine.slots) 8 c.lowest_free.ensures c.unwrap-at.result c.unwrap-at.ensures in
    let e = c.args in
    begin-done e.engine (length e.ring.now) e.client e.total 0 c.in_default.ensures refl c.with_staged.result (rw at.0 at c.with_staged.ensures)
