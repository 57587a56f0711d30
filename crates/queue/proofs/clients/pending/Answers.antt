use Rattle.std.proofs.Common.{sym, refl, ◌∙◌}
use Rattle.std.proofs.lemmas.Result.{err_from_is_err_and}
use Rattle.queue.proofs.Calls.{pending-refused, pending_done}
use Rattle.queue.proofs.Refusals.{PendingAllowed, pending-allowed}
use Rattle.queue.proofs.Room.{client-small, pending_right}
use Rattle.queue.proofs.clients.pending.Goals.{In_ok-pending_refusal}
use Rattle.queue.proofs.clients.pending.Goals as goal

allowed : (c : In_ok-pending_refusal) → PendingAllowed c.args.engine c.args.client
allowed c = pending-allowed c.args.engine c.args.client (sym c.in_ok-pending_refusal.ensures)

pub returns-in_err-pending_refusal : goal.returns-in_err-pending_refusal
returns-in_err-pending_refusal c =
    let p = err_from_is_err_and c.from_residual.result c.from_residual.ensures.1 in
    rw (p.1, p.2) (pending-refused c.args.engine c.args.client _ c.in_err-pending_refusal.ensures _ refl)

pub pending_at-requires : goal.pending_at-requires
pending_at-requires c = let a = allowed (goal.at.pending_at-requires c).In_ok-pending_refusal in client-small c.args.engine a.ok c.args.client a.owner

pub returns : goal.returns
returns c = let a = allowed (goal.at.returns c).In_ok-pending_refusal in
    let e = c.pending_at.ensures in
    pending_done c.args.engine c.args.client 0 c.in_ok-pending_refusal.ensures refl c.pending_at.result (e.0 ∙ pending_right c.args.engine a.ok c.args.client a.owner)
