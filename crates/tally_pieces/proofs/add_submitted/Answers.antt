use Rattle.tally_pieces.proofs.Batch.{submitted-refused, submitted-within}
use Rattle.tally_pieces.proofs.add_submitted.Goals as goal

pub returns-in-None : goal.returns-in-None
returns-in-None c =
    let a = c.args in
    submitted-refused a.edition (record { client = a.client; batch = a.batch.now }) a.running _ c.accept-submitted.ensures c.in-None.is

pub returns-in-Some : goal.returns-in-Some
returns-in-Some c =
    let a = c.args in
    submitted-within a.edition (record { client = a.client; batch = a.batch.now }) a.running _ c.accept-submitted.ensures _ c.in-Some.is _ c.reset_rule_of.ensures _ c.add_batch.ensures
