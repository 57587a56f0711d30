use Rattle.std.proofs.Common.{sym, ◌∙◌}
use Rattle.engine_record.proofs.Clients.{valid_bad, valid_good, valid_closed, valid_none}
use Rattle.engine_record.proofs.client_table.windows_valid.Goals.{else-client-via-then-client+else-bad_window, else-client-via-else-client}
use Rattle.engine_record.proofs.client_table.windows_valid.Goals as goal

pub returns-then-bad_window : goal.returns-then-bad_window
returns-then-bad_window c =
    valid_bad c.args.setup _ _ _ c.in-Some.ensures.cases.0 c.if-client.true (sym c.bad_window.ensures ∙ c.if-bad_window.true) ∙ c.loop-client.invariant

pub loop-client-preserved : goal.loop-client-preserved
loop-client-preserved c = elim c.else-client.branch [
  | else-client-via-then-client+else-bad_window w ↦
      valid_good c.args.setup _ _ _ c.in-Some.ensures.cases.0 w.if-client.true (sym w.bad_window.ensures ∙ w.if-bad_window.false) ∙ c.loop-client.invariant
  | else-client-via-else-client w ↦ valid_closed c.args.setup _ _ _ c.in-Some.ensures.cases.0 w.if-client.false ∙ c.loop-client.invariant
]

pub returns : goal.returns
returns c = valid_none c.args.setup c.loop-client.rest.now c.in_default.ensures.cases ∙ c.loop-client.invariant
