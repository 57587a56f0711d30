use Rattle.std.proofs.Common.{arith, sym, ◌∙◌, rules}
use Rattle.engine_record.proofs.Clients.{shares_found, shares_next, overlaps-end}
use Rattle.engine_record.proofs.client_table.overlaps_any.Goals as goal

pub returns-then-client-overlaps : goal.returns-then-client-overlaps
returns-then-client-overlaps c =
    shares_found c.args.clients.now c.loop-client.client-index (omega arith) c.args.bytes c.new-window.result c.new-window.ensures c.overlaps.result c.overlaps.ensures (search rules) ∙ c.loop-client.invariant

pub loop-client-preserved : goal.loop-client-preserved
loop-client-preserved c =
    shares_next c.args.clients.now c.loop-client.client-index (omega arith) c.args.bytes c.new-window.result c.new-window.ensures c.overlaps.result c.overlaps.ensures (search rules) ∙ c.loop-client.invariant

pub returns : goal.returns
returns c = sym (overlaps-end c.args.clients.now c.loop-client.client-index (omega arith) c.args.bytes) ∙ c.loop-client.invariant
