use mathlib.Core.Path.{refl, sym, ◌∙◌}
use Prim.Native.Nat.{◌≤◌}
use lib.ListN.{length}
use native.Mathlib.Omega.{arith}
use Rattle.engine_record.specs.Queue.{ready_slots}
use Rattle.engine_record.proofs.Checking.{checked_there, counted_bytes}
use Rattle.queue.specs.declared.Answer.TheVariants.{Accepted}
use Rattle.queue.proofs.Calls.{piece-refused, piece-done, last-answer, last_record, more-answer, more_record}
use Rattle.queue.proofs.Refusals.{PieceAllowed, piece-allowed}
use Rattle.queue.proofs.Room.{client-small, pending-small, piece_lies, piece-small, piece-offset-small}
use Rattle.submission.proofs.piece.Goals.{In_default}
use Rattle.submission.proofs.piece.Goals as goal

allowed : (c : In_default) → PieceAllowed c.args.engine (length c.args.ring.now) c.args.client (length c.args.piece.now)
allowed c =
    piece-allowed c.args.engine (length c.args.ring.now) c.args.client (length c.args.piece.now) (sym c.in_default.ensures)

pub piece_refusal-requires : goal.piece_refusal-requires
piece_refusal-requires c = c.check-found.ensures.found

pub returns-in-Err : goal.returns-in-Err
returns-in-Err c =
    piece-refused c.args.engine c.args.ring.now c.args.client c.args.piece.now _ c.in-Err.ensures c.in-Err.refusal refl

few : (c : In_default) → ready_slots c.args.engine ≤ 8
few c = c.check-found.ensures.few

pub unwrap-requires : goal.unwrap-requires
unwrap-requires c = checked_there c.args.engine c.check-found.result c.check-found.ensures.found (allowed (goal.at.unwrap-requires c).In_default).own.ok

pub write_offset-offset-requires : goal.write_offset-offset-requires
write_offset-offset-requires c =
    let ok = (allowed (goal.at.write_offset-offset-requires c).In_default).own.ok in
    (ok, few (goal.at.write_offset-offset-requires c).In_default, counted_bytes c.args.engine c.unwrap.result (sym c.unwrap.ensures ∙ c.check-found.ensures.found))

pub overflow_add-offset : goal.overflow_add-offset
overflow_add-offset c = let w = c.write_offset-offset.ensures in
    let e = c.args in
    omega (arith, w, piece-offset-small e.engine (length e.ring.now) e.client (length e.piece.now) (few (goal.at.overflow_add-offset c).In_default) (allowed (goal.at.overflow_add-offset c).In_default))

pub copy_in-requires : goal.copy_in-requires
copy_in-requires c =
    rw (c.wrap_offset-at.ensures, c.write_offset-offset.ensures) (piece_lies c.args.engine c.args.ring.now c.args.client (length c.args.piece.now) (few (goal.at.copy_in-requires c).In_default) (allowed (goal.at.copy_in-requires c).In_default))

pub overflow_add-received : goal.overflow_add-received
overflow_add-received c =
    omega (arith, (piece-small c.args.engine (length c.args.ring.now) c.args.client (length c.args.piece.now) (allowed (goal.at.overflow_add-received c).In_default)).0)

pub finished-requires : goal.finished-requires
finished-requires c =
    let a = allowed (goal.at.finished-requires c).In_default in
    let e = c.args.engine in
    let u = a.own.unfinished in
    (c.write_offset-offset.ensures, client-small e a.own.ok e.staged.client u.owner, omega (arith, pending-small e a.own.ok e.staged.client u.owner, few (goal.at.finished-requires c).In_default), u.slot)

pub returns-then-received-total : goal.returns-then-received-total
returns-then-received-total c =
    let e = c.args in
    let size = length e.piece.now in
    piece-done e.engine e.ring.now e.client e.piece.now 0 c.in_default.ensures refl (Accepted e.engine.next_ticket) c.finished.result _
    (last-answer e.engine size c.if-received-total.true)
    (c.finished.ensures ∙ last_record e.engine size c.if-received-total.true)
    (rw (c.wrap_offset-at.ensures, c.write_offset-offset.ensures) at c.copy_in.ensures)

pub overflow_sub-missing : goal.overflow_sub-missing
overflow_sub-missing c =
    (allowed (goal.at.overflow_sub-missing c).In_default).fits

pub overflow_cast-missing : goal.overflow_cast-missing
overflow_cast-missing c =
    omega (arith, (piece-small c.args.engine (length c.args.ring.now) c.args.client (length c.args.piece.now) (allowed (goal.at.overflow_cast-missing c).In_default)).1)

pub returns : goal.returns
returns c =
    let e = c.args in
    let size = length e.piece.now in
    piece-done e.engine e.ring.now e.client e.piece.now 0 c.in_default.ensures refl _ c.continued.result _
    (more-answer e.engine size c.if-received-total.false _ refl)
    (c.continued.ensures ∙ more_record e.engine size c.if-received-total.false)
    (rw (c.wrap_offset-at.ensures, c.write_offset-offset.ensures) at c.copy_in.ensures)
