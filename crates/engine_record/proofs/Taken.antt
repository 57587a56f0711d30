-- Laws of the oldest batch when it is taken: it is the first in ticket order, the others stay, and the record stays valid.
use Rattle.std.proofs.Common.{◌≡◌, ℕ, suc, ◌+◌, ◌-◌, ◌%◌, ◌<◌, ◌≤◌, true, cond, not, ◌&&◌, eqb, List, ◌∷◌, length, get_or, set, refl, ap, ◌∙◌, ⊎_elim, add-zero, arith, lt-ltb, eq-eqb, Option}
use borrow.Author.Tests.{not-true}
use Rattle.word.proofs.Tests.{split, and-true}
use Rattle.ring.specs.Segment.{wrap_offset}
use Rattle.ring.proofs.Wrapped.{wrapped_in, wrapped_over, wrapped_below}
use Rattle.engine_record.specs.declared.Batch.{Batch}
use Rattle.engine_record.specs.declared.Client.{Client}
use Rattle.engine_record.specs.declared.EngineRecord.{EngineRecord}
use Rattle.engine_record.specs.Setup.{bad_length}
use Rattle.engine_record.specs.Slots.{free, ready_batches, sum_over, total_length}
use Rattle.engine_record.specs.Tickets.{ticket_before, slot_of_ticket, batch_of_ticket, in_ticket_order}
use Rattle.engine_record.specs.Clients.{is_open, no_client}
use Rattle.engine_record.specs.Queue.{ready_slots, waiting}
use Rattle.engine_record.specs.Rules.{ring_rule, memory_rule, read_rule, number_rules, windows_rule, tickets_rule, end_to_end_rule, lengths_allowed, lengths_rule, clients_open, owners_rule, pending_rule, staged_rule, valid}
use Rattle.engine_record.proofs.Order.{Oldest, oldest, order_freed, sum-split, sum_has}
use Rattle.engine_record.proofs.Line.{Headed, headed}
use Rattle.engine_record.proofs.Clients.{open_place, place_open}
use Rattle.engine_record.proofs.Opened.{windows_set, opened-set, open_more, counts-lowered}
use Rattle.engine_record.proofs.Unfinished.{staged-stays, freed_free}
use Rattle.engine_record.proofs.Rules.{LengthGood, length-good, Valid, valid_facts, valid-made, numbers-kept}

-- k batches are ready beside the oldest one
module _ (engine : EngineRecord) (ok : valid engine ≡ true) (k : ℕ) (some : ready_slots engine ≡ suc k) (few : k < 8) (four : length engine.clients ≡ 4) where
  v : Valid engine
  v = valid_facts engine ok

  abbrev pub ticket : ℕ
  ticket = ticket_before engine.next_ticket (suc k)

  abbrev pub first : Batch
  first = batch_of_ticket ticket engine.slots

  abbrev pub rest : List Batch
  rest = in_ticket_order k engine.next_ticket engine.slots

  -- the slots without it
  abbrev pub left : List (Option Batch)
  left = set engine.slots (slot_of_ticket ticket engine.slots) free

  pub waiting-first : waiting engine ≡ first ∷ rest
  unfolding in_ticket_order
  waiting-first = rw some

  found : Oldest engine.next_ticket k engine.slots
  found = oldest engine.next_ticket k engine.slots (omega arith) (rw some at v.given)

  left-few : length (ready_batches left) ≡ k
  left-few = omega (arith, found.fewer)

  -- in ticket order they are the others
  pub left-order : in_ticket_order (length (ready_batches left)) engine.next_ticket left ≡ rest
  left-order = rw left-few (order_freed engine.next_ticket k engine.slots (slot_of_ticket ticket engine.slots) (omega arith) found.has k (omega arith))

  left-sum : (f : Batch → ℕ) → sum_over f (ready_batches engine.slots) ≡ f first + sum_over f (ready_batches left)
  left-sum f =
      sum-split f engine.slots (slot_of_ticket ticket engine.slots)
      ∙ ap (λ (x : ℕ). x + sum_over f (ready_batches left)) (sum_has f ticket (get_or engine.slots (slot_of_ticket ticket engine.slots) free) found.has)

  whole : first.length + total_length rest ≤ engine.setup.ring
  unfolding sum_over
  whole = rw waiting-first at v.within

  line : Headed engine.setup.ring engine.read_offset v.numbers.below 0 first rest
  line =
      let begin : wrap_offset engine.setup.ring (engine.read_offset + 0) ≡ engine.read_offset = rw add-zero (wrapped_in engine.setup.ring engine.read_offset v.numbers.below) in
      let fits = whole in
      headed engine.setup.ring engine.read_offset v.numbers.below 0 first rest (omega arith) (rw begin (rw waiting-first at v.ends))

  -- it lies at the read offset
  pub first-at : first.offset ≡ engine.read_offset
  first-at = line.at ∙ rw add-zero (wrapped_in engine.setup.ring engine.read_offset v.numbers.below)

  sizes : (not (bad_length engine.setup.ring first.length) ≡ true) × (lengths_allowed engine.setup.ring rest ≡ true)
  unfolding lengths_allowed
  sizes = and-true (not (bad_length engine.setup.ring first.length)) (lengths_allowed engine.setup.ring rest) (rw waiting-first at v.lengths)

  pub first_good : LengthGood engine.setup.ring first.length
  first_good = length-good engine.setup.ring first.length (not-true (bad_length engine.setup.ring first.length) sizes.0)

  owned : (is_open engine first.client ≡ true) × (clients_open engine rest ≡ true)
  unfolding clients_open
  owned = and-true (is_open engine first.client) (clients_open engine rest) (rw waiting-first at v.owners)

  -- its client is open
  pub first_owner : is_open engine first.client ≡ true
  first_owner = owned.0

  -- the record without it
  abbrev pub lowered : Client
  lowered = record { window = (get_or engine.clients first.client no_client).window; pending = (get_or engine.clients first.client no_client).pending - 1; opened = (get_or engine.clients first.client no_client).opened }

  abbrev pub taken : EngineRecord
  taken = record {
    setup = engine.setup;
    clients = set engine.clients first.client lowered;
    slots = left;
    read_offset = wrap_offset engine.setup.ring (engine.read_offset + first.length);
    next_ticket = engine.next_ticket;
    staged = engine.staged;
  }

  -- the same clients are open
  taken_open : (j : ℕ) → is_open engine j ≡ true → is_open taken j ≡ true
  taken_open j h = let o = open_place engine j h in place_open taken j o.0 (opened-set engine.clients first.client _ j ∙ o.1)

  at-four : wrap_offset engine.setup.ring (engine.read_offset + first.length) % 4 ≡ 0
  at-four =
      let n : ℕ = engine.setup.ring in
      let x : ℕ = engine.read_offset + first.length in
      let good = first_good.four in
      let whole = v.numbers.ring.whole in
      let begin = v.numbers.four in
      ⊎_elim (λ (p : x < n). rw (wrapped_in n x p) (omega arith)) (λ (p : n ≤ x). rw (wrapped_over n x p) (omega arith)) (split x n)

  numbers-taken : number_rules taken ≡ true
  numbers-taken =
      let x = and-true (ring_rule engine && memory_rule engine) (read_rule engine) (numbers-kept engine ok) in
      let on : ℕ = wrap_offset engine.setup.ring (engine.read_offset + first.length) in
      let below : on < engine.setup.ring = wrapped_below engine.setup.ring (engine.read_offset + first.length) (omega (arith, v.numbers.below, whole)) in
      rw (x.0, eq-eqb (on % 4) 0 at-four, lt-ltb on engine.setup.ring below)

  windows_taken : windows_rule taken ≡ true
  windows_taken = rw (windows_set engine.clients first.client _) v.windows

  tickets-taken : tickets_rule taken ≡ true
  tickets-taken = rw left-few found.rest

  ends-taken : end_to_end_rule taken ≡ true
  ends-taken =
      let z : 0 + first.length ≡ first.length = omega arith in
      rw left-order (rw z at line.rest)

  lengths_taken : lengths_rule taken ≡ true
  lengths_taken = rw left-order sizes.1

  total-taken : total_length (waiting taken) ≤ engine.setup.ring
  total-taken = rw left-order (omega (arith, whole))

  owners_taken : owners_rule taken ≡ true
  owners_taken = rw left-order (open_more engine taken rest taken_open owned.1)

  counts-taken : pending_rule taken ≡ true
  counts-taken =
      counts-lowered first.client engine.clients (ready_batches engine.slots) (ready_batches left) (open_place engine first.client first_owner).1 (λ j. left-sum (λ x. cond (eqb x.client j) 1 0)) v.counts

  staged-taken : staged_rule taken ≡ true
  staged-taken =
      staged-stays engine taken refl refl (λ _. taken_open engine.staged.client) (omega (arith, left-sum (λ b. b.length)))
      (λ i. freed_free engine.slots (slot_of_ticket ticket engine.slots) i) v.staged

  -- it stays valid, and the others wait in their order
  pub taken-valid : valid taken ≡ true
  taken-valid = valid-made taken numbers-taken windows_taken tickets-taken ends-taken lengths_taken total-taken owners_taken counts-taken staged-taken

  pub taken-waiting : waiting taken ≡ rest
  taken-waiting = left-order
