use Rattle.std.proofs.Common.{rules, arith}
use Rattle.std.proofs.lemmas.Iterator.{YieldsList-from_slice}
use Rattle.std.proofs.lemmas.Iterator.Search.{position_from_yields_List}
use borrow.Author.Tests.{tests}
use Rattle.engine_record.specs.Tickets.{ticket_before, has_ticket}
use Rattle.engine_record.proofs.First.{ticket_first}
use Rattle.engine_record.proofs.slot_table.slot_of_age.Goals as goal

pub returns : goal.returns
returns c =
    ticket_first (ticket_before c.args.next c.args.k) c.args.slots.now c.position.result (omega (arith, c.told-slots))
    (position_from_yields_List (has_ticket (ticket_before c.args.next c.args.k)) _ _ c.position.result c.position.ensures.ran (YieldsList-from_slice _ c.iter.ensures.rest) (λ x b q k. search (rules, tests)))
