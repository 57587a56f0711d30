use Rattle.std.proofs.Common.{◌≡◌, sym, ◌∙◌, arith}
use borrow.Author.Tests.{lt-leb}
use Rattle.engine_record.specs.Clients.{lowest_closed}
use Rattle.engine_record.proofs.Clients.{closed_here, closed_later, closed-end, closed_full}
use Rattle.engine_record.proofs.client_table.lowest_closed.Goals.{Then-not-clients-id, After-loop-id}
use Rattle.engine_record.proofs.client_table.lowest_closed.Goals as goal

found : (c : Then-not-clients-id) → c.loop-id.id ≡ lowest_closed c.args.clients.now
found c =
    omega (arith, c.loop-id.invariant, closed_here c.args.clients.now c.loop-id.id (omega (arith, c.told-clients)) c.if-not-clients-id.true)

none : (c : After-loop-id) → lowest_closed c.args.clients.now ≡ 4
none c = omega (arith, c.loop-id.invariant, closed-end c.args.clients.now c.loop-id.id (omega (arith, c.told-clients)))

pub loop-id-init : goal.loop-id-init
loop-id-init c = omega arith

pub returns-then-not-clients-id-clause-lowest : goal.returns-then-not-clients-id-clause-lowest
returns-then-not-clients-id-clause-lowest c = (found (goal.at.returns-then-not-clients-id-clause-lowest c).Then-not-clients-id, omega arith)

pub returns-then-not-clients-id-clause-full : goal.returns-then-not-clients-id-clause-full
returns-then-not-clients-id-clause-full c =
    sym (lt-leb 4 _ (omega (arith, found (goal.at.returns-then-not-clients-id-clause-full c).Then-not-clients-id))) ∙ closed_full c.args.clients.now (omega (arith, c.told-clients))

pub loop-id-preserved : goal.loop-id-preserved
loop-id-preserved c =
    omega (arith, c.loop-id.invariant, closed_later c.args.clients.now c.loop-id.id (omega (arith, c.told-clients)) c.if-not-clients-id.false)

pub returns-clause-lowest : goal.returns-clause-lowest
returns-clause-lowest c = none (goal.at.returns-clause-lowest c).After-loop-id

pub returns-clause-full : goal.returns-clause-full
returns-clause-full c = rw (none (goal.at.returns-clause-full c).After-loop-id) at (closed_full c.args.clients.now (omega (arith, c.told-clients)))
