use Rattle.std.proofs.Common.{refl}
use Rattle.queue.proofs.Calls.{set-up-done, set-up-refused}
use Rattle.queue.proofs.clients.set_up.Goals as goal

pub returns-in-Err : goal.returns-in-Err
returns-in-Err c = set-up-refused _ _ c.in-Err.ensures c.fresh_record.result c.in-Err.refusal refl c.fresh_record.ensures

pub returns : goal.returns
returns c = set-up-done _ _ c.in_default.ensures c.fresh_record-2.result refl c.fresh_record-2.ensures
