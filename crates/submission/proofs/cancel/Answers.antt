use mathlib.Core.Path.{refl}
use Rattle.queue.proofs.Calls.{cancel-refused, cancel-done}
use Rattle.submission.proofs.cancel.Goals as goal

pub returns-in-Err : goal.returns-in-Err
returns-in-Err c = cancel-refused c.args.engine c.args.client _ c.in-Err.ensures c.in-Err.refusal refl

pub returns : goal.returns
returns c = let e = c.args in
    cancel-done e.engine e.client 0 c.in_default.ensures refl c.with_staged.result (rw c.no_staged.ensures at c.with_staged.ensures)
