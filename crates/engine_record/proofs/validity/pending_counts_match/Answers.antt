use Rattle.std.proofs.Common.{◌∙◌, sym, arith}
use Rattle.engine_record.specs.Slots.{ready_batches}
use Rattle.engine_record.proofs.Clients.{counts_wrong, counts_right, counts_closed, counts_end}
use Rattle.engine_record.proofs.validity.pending_counts_match.Goals.{else-client-via-then-client+else-client-count_of, else-client-via-else-client}
use Rattle.engine_record.proofs.validity.pending_counts_match.Goals as goal

pub returns-then-client-count_of : goal.returns-then-client-count_of
returns-then-client-count_of c =
    counts_wrong c.args.clients.now c.loop-id.id (omega (arith, c.told-clients)) (ready_batches c.args.slots.now) c.if-client.true (λ e. c.if-client-count_of.true (e ∙ sym c.count_of.ensures))
    ∙ c.loop-id.invariant

pub loop-id-preserved : goal.loop-id-preserved
loop-id-preserved c = elim c.else-client.branch [
  | else-client-via-then-client+else-client-count_of w ↦
      counts_right c.args.clients.now c.loop-id.id (omega (arith, c.told-clients)) (ready_batches c.args.slots.now) w.if-client.true (w.if-client-count_of.false ∙ w.count_of.ensures)
      ∙ c.loop-id.invariant
  | else-client-via-else-client w ↦
      counts_closed c.args.clients.now c.loop-id.id (omega (arith, c.told-clients)) (ready_batches c.args.slots.now) w.if-client.false ∙ c.loop-id.invariant
]

pub returns : goal.returns
returns c = sym (counts_end c.args.clients.now c.loop-id.id (omega (arith, c.told-clients)) _) ∙ c.loop-id.invariant
