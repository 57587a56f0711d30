use Rattle.std.proofs.Common.{arith}
use Rattle.engine_record.proofs.Unfinished.{none_test, unfinished_test}
use Rattle.engine_record.proofs.Rules.{numbers, settled-bytes}
use Rattle.engine_record.proofs.validity.staged_valid.Goals as goal

pub returns-then-total-eq0 : goal.returns-then-total-eq0
returns-then-total-eq0 c =
    none_test c.args.engine.now c.if-total-eq0.true

pub ready_bytes-requires : goal.ready_bytes-requires
ready_bytes-requires c =
    let n = numbers c.args.engine.now c.requires.0 in
    omega (arith, settled-bytes c.args.engine.now c.requires.1 (omega arith), n.ring.small)

pub overflow_sub-room : goal.overflow_sub-room
overflow_sub-room c = rw c.ready_bytes.ensures (settled-bytes c.args.engine.now c.requires.1 (omega arith))

pub returns : goal.returns
returns c =
    rw (c.is_open-owned.ensures, c.bad_length.ensures, c.ready_bytes.ensures, c.slot_held-held.ensures)
    (unfinished_test c.args.engine.now c.if-total-eq0.false (settled-bytes c.args.engine.now c.requires.1 (omega arith)))
