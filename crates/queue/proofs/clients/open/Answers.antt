use Rattle.std.proofs.Common.{◌≡◌, ◌<◌, refl, sym, ◌∙◌, arith}
use Rattle.engine_record.specs.Clients.{lowest_closed}
use Rattle.engine_record.proofs.Clients.{closed-below}
use Rattle.engine_record.proofs.First.{first_some, place_is}
use Rattle.queue.proofs.Calls.{open_refused, open_done}
use Rattle.queue.proofs.Refusals.{OpenAllowed, open_allowed}
use Rattle.queue.proofs.clients.open.Goals.{After-unwrap-id, In_default}
use Rattle.queue.proofs.clients.open.Goals as goal

allowed : (c : In_default) → OpenAllowed c.args.engine (record { start = c.args.start; length = c.args.size })
allowed c = open_allowed c.args.engine (record { start = c.args.start; length = c.args.size }) (sym c.in_default.ensures)

pub returns-in-Err : goal.returns-in-Err
returns-in-Err c = open_refused c.args.engine (record { start = c.args.start; length = c.args.size }) _ c.in-Err.ensures c.in-Err.refusal refl

pub unwrap-id-requires : goal.unwrap-id-requires
unwrap-id-requires c =
    let below = closed-below c.args.engine.clients (omega (arith, (allowed (goal.at.unwrap-id-requires c).In_default).few)) in
    first_some c.lowest_closed.result (lowest_closed c.args.engine.clients) 4 c.lowest_closed.ensures.lowest (omega arith)

-- the id is the lowest that is free, and one of the four
id-is : (c : After-unwrap-id) → (c.unwrap-id.result ≡ lowest_closed c.args.engine.clients) × (c.unwrap-id.result < 4)
id-is c = place_is c.lowest_closed.result (lowest_closed c.args.engine.clients) 4 c.lowest_closed.ensures.lowest c.unwrap-id.result c.unwrap-id.ensures

pub overflow_cast-result : goal.overflow_cast-result
overflow_cast-result c = omega (arith, (id-is c).1)

pub with_client-requires : goal.with_client-requires
with_client-requires c = id-is c

pub returns : goal.returns
returns c =
    let e = c.args in
    open_done e.engine (record { start = e.start; length = e.size }) 0 c.in_default.ensures refl
    c.unwrap-id.result (id-is (goal.at.returns c).After-unwrap-id).0 c.with_client.result c.with_client.ensures
