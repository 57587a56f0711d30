-- What a valid record leaves room for.
use Rattle.std.proofs.Common.{◌≡◌, ℕ, ◌+◌, ◌<◌, ◌≤◌, true, false, List, length, ⊎_elim, arith}
use Rattle.ring.specs.Segment.{LiesInRing}
use Rattle.ring.proofs.Wrapped.{wrapped_below}
use Rattle.ring.proofs.Segment.{lies_wrapped}
use Rattle.engine_record.specs.declared.EngineRecord.{EngineRecord}
use Rattle.engine_record.specs.Slots.{ready_batches, count_of}
use Rattle.engine_record.specs.Clients.{is_open, client_at}
use Rattle.engine_record.specs.Staged.{no_staged, is_idle}
use Rattle.engine_record.specs.Queue.{ready_slots, ready_bytes, taken_bytes, write_offset}
use Rattle.engine_record.specs.Rules.{valid}
use Rattle.engine_record.proofs.Rules.{Valid, valid_facts, ready-within}
use Rattle.engine_record.proofs.Clients.{open_place}
use Rattle.engine_record.proofs.Opened.{counts-at, counts-small}
use Rattle.engine_record.proofs.Unfinished.{Unfinished, staged_cases}
use Rattle.queue.specs.Calls.{piece_offset}
use Rattle.queue.proofs.Refusals.{SubmitAllowed, PieceAllowed}

module _ (engine : EngineRecord) (ok : valid engine ≡ true) where
  facts : Valid engine
  facts = valid_facts engine ok

  pub bytes-within : ready_slots engine ≤ 8 → ready_bytes engine ≤ engine.setup.ring
  bytes-within few = ready-within engine facts few

  -- with the staged submission too
  pub bytes-taken : ready_slots engine ≤ 8 → taken_bytes engine ≤ engine.setup.ring
  bytes-taken few =
      ⊎_elim (λ (n : engine.staged ≡ no_staged). rw n (omega (arith, bytes-within few))) (λ (u : (is_idle engine.staged ≡ false) × Unfinished engine). u.1.room)
      (staged_cases engine facts.staged)

  pub taken-small : ready_slots engine ≤ 8 → taken_bytes engine ≤ 32768
  taken-small few = omega (arith, bytes-taken few, facts.numbers.ring.small)

  pub offset-small : ready_slots engine ≤ 8 → engine.read_offset + ready_bytes engine < 65536
  offset-small few = omega (arith, bytes-within few, facts.numbers.ring.small, facts.numbers.below)

  module _ (client : ℕ) (owner : is_open engine client ≡ true) where
    pub client-small : client < 4
    client-small = (open_place engine client owner).0

    pub pending-small : (client_at engine client).pending ≤ ready_slots engine
    pending-small = counts-small client engine.clients (ready_batches engine.slots) facts.counts (open_place engine client owner).1

    -- an open client's count is that of its ready batches
    pub pending_right : (client_at engine client).pending ≡ count_of client (ready_batches engine.slots)
    pending_right =
        let z : 0 + client ≡ client = omega arith in
        rw z at (counts-at 0 client engine.clients (ready_batches engine.slots) facts.counts (open_place engine client owner).1)

-- a batch that is accepted lies in the ring
pub submit_lies : (engine : EngineRecord) (ring : List ℕ) (client size : ℕ) → SubmitAllowed engine (length ring) client size → LiesInRing ring (write_offset engine) size
submit_lies engine ring client size a =
    let v = valid_facts engine a.ok in
    let t = ready-within engine v (omega (arith, a.slot)) in
    let room = a.room in
    rw a.ring at (lies_wrapped ring engine.read_offset (ready_bytes engine) size (omega (arith, a.ring, v.numbers.below)) (omega (arith, a.ring)))

-- a piece that is accepted lies in the ring behind those before it
pub piece_lies : (engine : EngineRecord) (ring : List ℕ) (client size : ℕ) → ready_slots engine ≤ 8 → PieceAllowed engine (length ring) client size → LiesInRing ring (piece_offset engine) size
piece_lies engine ring client size few a =
    let v = valid_facts engine a.own.ok in
    let u = a.own.unfinished in
    let t = ready-within engine v few in
    let below = wrapped_below engine.setup.ring (engine.read_offset + ready_bytes engine) (omega (arith, v.numbers.below)) in
    rw a.ring at (lies_wrapped ring (write_offset engine) engine.staged.received size (omega (arith, a.ring)) (omega (arith, a.ring, a.fits, u.room)))

-- its numbers are small
pub piece-small : (engine : EngineRecord) (given client size : ℕ) → PieceAllowed engine given client size → (engine.staged.received + size ≤ 32768) × (engine.staged.total ≤ 32768)
piece-small engine given client size a =
    let v = valid_facts engine a.own.ok in
    let h : engine.staged.total ≤ 32768 = omega (arith, a.own.unfinished.room, v.numbers.ring.small) in
    (omega (arith, a.fits), h)

pub piece-offset-small : (engine : EngineRecord) (given client size : ℕ) → ready_slots engine ≤ 8 → PieceAllowed engine given client size → write_offset engine + engine.staged.received < 65536
piece-offset-small engine given client size few a =
    let v = valid_facts engine a.own.ok in
    let t = ready-within engine v few in
    let below = wrapped_below engine.setup.ring (engine.read_offset + ready_bytes engine) (omega (arith, v.numbers.below)) in
    let small = piece-small engine given client size a in
    omega (arith, v.numbers.ring.small, a.own.unfinished.short, small.1)
