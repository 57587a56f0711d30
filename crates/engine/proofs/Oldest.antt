-- The oldest batch of a valid record that has one: its slot, its owner, its length, and what it may touch.
use mathlib.Core.Path.{◌≡◌, refl, ap, sym, ◌∙◌}
use mathlib.Core.Bool.{true, cond}
use mathlib.Core.List.{List, ◌∷◌}
use Prim.Native.Nat.{ℕ, zero, suc, ◌+◌, ◌-◌, ◌≤◌, ◌<◌}
use native.Mathlib.Omega.{arith}
use lib.ListN.{length, set}
use lib.Dec.{eqb}
use borrow.Author.Tests.{eq-eqb}
use Rattle.word.proofs.Tests.{and-true}
use Rattle.ring.specs.Segment.{wrap_offset}
use Rattle.task_check.specs.declared.task.Bounds.{Bounds}
use Rattle.raster.specs.Preconditions.{BoundsInMemory}
use Rattle.std.proofs.Common.{Option}
use Rattle.engine_record.specs.declared.Batch.{Batch}
use Rattle.engine_record.specs.declared.Client.{Client}
use Rattle.engine_record.specs.declared.EngineRecord.{EngineRecord}
use Rattle.engine_record.specs.Slots.{free, ready_batches, sum_over, count_of}
use Rattle.engine_record.specs.Tickets.{ticket_before, slot_of_ticket, batch_of_ticket, tickets_consecutive, in_ticket_order}
use Rattle.engine_record.specs.Clients.{is_open, client_at}
use Rattle.engine_record.specs.Queue.{ready_slots, waiting}
use Rattle.engine_record.specs.Rules.{clients_open, valid}
use Rattle.engine_record.proofs.Slots.{ready_most}
use Rattle.engine_record.proofs.Order.{oldest as is-oldest}
use Rattle.engine_record.proofs.Rules.{LengthGood, Valid, valid_facts, sum-waiting}
use Rattle.engine_record.proofs.Taken.{first, waiting-first, first_good}
use Rattle.engine_record.proofs.Clients.{open_place}
use Rattle.engine_record.proofs.Windows.{window_placed}
use Rattle.queue.proofs.Room.{pending_right}
use Rattle.engine.specs.Run.{oldest_ticket, oldest, bounds_of_client, pending_lowered, without_oldest}

-- its client is open
pub owner_open : (engine : EngineRecord) → valid engine ≡ true → 0 < ready_slots engine → is_open engine (oldest engine).client ≡ true
unfolding in_ticket_order clients_open
owner_open engine ok some = go (ready_slots engine) refl some
  where
    go : (n : ℕ) → ready_slots engine ≡ n → 0 < n → is_open engine (oldest engine).client ≡ true
    go zero e h = absurd (omega arith)
    go (suc k) e h =
        let b : Batch = batch_of_ticket (ticket_before engine.next_ticket (suc k)) engine.slots in
        rw e (and-true (is_open engine b.client) (clients_open engine (in_ticket_order k engine.next_ticket engine.slots)) (rw e at (valid_facts engine ok).owners)).0

-- it is one of the four
pub owner_small : (engine : EngineRecord) → valid engine ≡ true → 0 < ready_slots engine → (oldest engine).client < 4
owner_small engine ok some =
    (open_place engine (oldest engine).client (owner_open engine ok some)).0

-- its slot is one of the eight
pub slot_below : (engine : EngineRecord) → valid engine ≡ true → 0 < ready_slots engine → length engine.slots ≡ 8 → slot_of_ticket (oldest_ticket engine) engine.slots < 8
slot_below engine ok some eight =
    let k : ℕ = ready_slots engine - 1 in
    let more : ready_slots engine ≡ suc k = omega arith in
    let few = ready_most engine.slots in
    let given : tickets_consecutive (suc k) engine.next_ticket engine.slots ≡ true = ap (λ (n : ℕ). tickets_consecutive n engine.next_ticket engine.slots) (sym more) ∙ (valid_facts engine ok).given in
    let found = (is-oldest engine.next_ticket k engine.slots (omega arith) given).found in
    let same : slot_of_ticket (oldest_ticket engine) engine.slots ≡ slot_of_ticket (ticket_before engine.next_ticket (suc k)) engine.slots = ap (λ (n : ℕ). slot_of_ticket (ticket_before engine.next_ticket n) engine.slots) more in
    omega arith

-- k batches are ready beside it
module _ (engine : EngineRecord) (ok : valid engine ≡ true) (k : ℕ) (more : ready_slots engine ≡ suc k) (four : length engine.clients ≡ 4) (eight : length engine.slots ≡ 8) where
  v : Valid engine
  v = valid_facts engine ok

  pub few : k < 8
  few = omega (arith, ready_most engine.slots)

  pub first-is : oldest engine ≡ first engine ok k more few four
  first-is = rw more

  -- it is the first in ticket order
  oldest-first : waiting engine ≡ oldest engine ∷ in_ticket_order k engine.next_ticket engine.slots
  oldest-first = rw first-is (waiting-first engine ok k more few four)

  -- its client has it for one
  owned : 1 ≤ count_of (oldest engine).client (ready_batches engine.slots)
  unfolding sum_over
  owned =
      let client : ℕ = (oldest engine).client in
      let all = sum-waiting engine v (omega (arith, few)) (λ b. cond (eqb b.client client) 1 0) in
      let parts : count_of client (waiting engine) ≡ cond (eqb client client) 1 0 + count_of client (in_ticket_order k engine.next_ticket engine.slots) = ap (count_of client) oldest-first in
      let own : ◌≡◌ {A = ℕ} (cond (eqb client client) 1 0) 1 = rw (eq-eqb client client refl) in
      omega arith

  -- its length is one that submit allows
  pub good : LengthGood engine.setup.ring (oldest engine).length
  good = rw first-is (first_good engine ok k more few four)

-- what taking it needs
pub record Takes (engine : EngineRecord) : Type 0 where
  pub slot : slot_of_ticket (oldest_ticket engine) engine.slots < 8
  pub client : (oldest engine).client < 4
  pub counted : 1 ≤ (client_at engine (oldest engine).client).pending
  pub offset : engine.read_offset + (oldest engine).length < 65536

pub takes : (engine : EngineRecord) → valid engine ≡ true → 0 < ready_slots engine → length engine.clients ≡ 4 → length engine.slots ≡ 8 → Takes engine
takes engine ok some four eight =
    let k : ℕ = ready_slots engine - 1 in
    let more : ready_slots engine ≡ suc k = omega arith in
    let v = valid_facts engine ok in
    record {
      slot = slot_below engine ok some eight;
      client = owner_small engine ok some;
      counted = rw (pending_right engine ok (oldest engine).client (owner_open engine ok some)) (owned engine ok k more four eight);
      offset = omega (arith, (good engine ok k more four eight).within, v.numbers.ring.small, v.numbers.below);
    }

-- the record that the code makes without it
pub without_made : (engine : EngineRecord) (at : ℕ) → at ≡ slot_of_ticket (oldest_ticket engine) engine.slots → (b : Batch) → b ≡ oldest engine →
    (clients : List Client) → clients ≡ pending_lowered engine.clients b.client → (slots : List (Option Batch)) → slots ≡ set engine.slots at free →
    (read : ℕ) → read ≡ wrap_offset engine.setup.ring (engine.read_offset + b.length) →
    record { setup = engine.setup; clients = clients; slots = slots; read_offset = read; next_ticket = engine.next_ticket; staged = engine.staged } ≡ without_oldest engine
unfolding without_oldest
without_made engine at ea b eb clients ec slots es read er = rw (ec, es, er, ea, eb)

-- its client's window and common lie in memory
pub oldest-room : (engine : EngineRecord) → valid engine ≡ true → 0 < ready_slots engine →
    (n : ℕ) → n ≡ engine.setup.memory → (b : Batch) → b ≡ oldest engine → (bounds : Bounds) → bounds ≡ bounds_of_client engine b.client → BoundsInMemory bounds n
oldest-room engine ok some n en b eb bounds is =
    let v = valid_facts engine ok in
    rw (is, eb, en) (record { window = (window_placed engine v (oldest engine).client (owner_open engine ok some)).fits; common = v.numbers.memory.shared })
