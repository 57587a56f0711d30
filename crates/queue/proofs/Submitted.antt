-- What an accepted submit does, and a last piece: the record stays valid, the batches that waited stay with their bytes, and the new one is the last.
use Rattle.std.proofs.Common.{◌≡◌, ℕ, suc, ◌+◌, ◌<◌, ◌≤◌, true, false, cond, eqb, List, [], ◌∷◌, ◌++◌, length, get_or, set, refl, ap, ◌∙◌, arith, length-set, Option, None}
use Rattle.ring.specs.Segment.{wrap_offset}
use Rattle.ring.specs.Copied.{copied_in}
use Rattle.engine_record.specs.declared.Batch.{Batch}
use Rattle.engine_record.specs.declared.EngineRecord.{EngineRecord}
use Rattle.engine_record.specs.Setup.{bad_length}
use Rattle.engine_record.specs.Slots.{free, ready_with, ready_batches, total_length, lowest_free}
use Rattle.engine_record.specs.Tickets.{ticket_after, slot_of_ticket, in_ticket_order}
use Rattle.engine_record.specs.Clients.{is_open, no_client, open_windows, pending_counts_match}
use Rattle.engine_record.specs.Queue.{ready_slots, ready_bytes, write_offset, waiting}
use Rattle.engine_record.specs.Rules.{number_rules, windows_rule, tickets_rule, end_to_end_rule, lengths_rule, owners_rule, pending_rule, staged_rule, valid}
use Rattle.engine_record.proofs.Added.{lowest-below, lowest-free, sum-new, length-new, order-new, given-more, next_absent}
use Rattle.engine_record.proofs.Line.{sum-snoc, lengths_snoc, open_snoc, end-last, held, held_new}
use Rattle.engine_record.proofs.Clients.{open_place, place_open}
use Rattle.engine_record.proofs.Opened.{windows_set, opened-set, open_more, counts_raised}
use Rattle.engine_record.proofs.Unfinished.{idle-kept}
use Rattle.engine_record.proofs.Rules.{Valid, valid_facts, valid-made, numbers-kept, sum-waiting, ready-within}
use Rattle.queue.specs.Calls.{new_batch, pending_raised, with_batch}
use Rattle.queue.proofs.Refusals.{SubmitAllowed, Own}
use Rattle.queue.proofs.Validity.{Sized, few-taken}

pub added-sized : (engine : EngineRecord) (at : ℕ) (b : Batch) → Sized engine → Sized (with_batch engine at b)
unfolding with_batch
added-sized engine at b s = record {
  clients = length-set engine.clients b.client (record { window = (get_or engine.clients b.client no_client).window; pending = (get_or engine.clients b.client no_client).pending + 1; opened = (get_or engine.clients b.client no_client).opened }) ∙ s.clients;
  slots = length-set engine.slots at (ready_with b) ∙ s.slots;
  next_ticket = omega arith;
}

-- a batch of that client and length may be put into the slot `at`
pub record Addable (engine : EngineRecord) (at client size : ℕ) : Type 0 where
  pub ok : valid engine ≡ true
  pub owner : is_open engine client ≡ true
  pub allowed : bad_length engine.setup.ring size ≡ false
  pub room : ready_bytes engine + size ≤ engine.setup.ring
  pub slot : at < 8
  pub unused : get_or engine.slots at free ≡ None

-- a submit's batch may, into the lowest free slot
pub submit_addable : (engine : EngineRecord) → Sized engine → (given client size : ℕ) → SubmitAllowed engine given client size → Addable engine (lowest_free engine.slots) client size
submit_addable engine s given client size a =
    let v = valid_facts engine a.ok in
    record {
      ok = a.ok;
      owner = a.owner;
      allowed = a.allowed;
      room = omega (arith, a.room, ready-within engine v (few-taken engine s));
      slot = omega (arith, lowest-below engine.slots (omega (arith, a.slot, s.slots)), s.slots);
      unused = lowest-free engine.slots;
    }

-- and the staged one, into the slot that it holds
pub staged_addable : (engine : EngineRecord) (client : ℕ) → Own engine client → Addable engine engine.staged.slot engine.staged.client engine.staged.total
staged_addable engine client o =
    let u = o.unfinished in
    record { ok = o.ok; owner = u.owner; allowed = u.allowed; room = u.room; slot = u.slot; unused = u.held }

module _ (engine : EngineRecord) (s : Sized engine) (at client size : ℕ) (a : Addable engine at client size) where
  abbrev b : Batch
  b = new_batch engine client size

  abbrev slots : List (Option Batch)
  slots = set engine.slots at (ready_with b)

  v : Valid engine
  v = valid_facts engine a.ok

  few : ready_slots engine ≤ 8
  few = few-taken engine s

  inside : at < length engine.slots
  inside = omega (arith, a.slot, s.slots)

  one_more : length (ready_batches slots) ≡ suc (ready_slots engine)
  one_more = length-new b engine.slots at inside a.unused

  absent : slot_of_ticket engine.next_ticket engine.slots ≡ length engine.slots
  absent = next_absent (ready_slots engine) engine.next_ticket engine.slots refl (omega (arith, few)) s.next_ticket v.given

  order : in_ticket_order (length (ready_batches slots)) (ticket_after engine.next_ticket) slots ≡ waiting engine ++ (b ∷ [])
  order = rw one_more (order-new b engine.next_ticket engine.slots at refl s.next_ticket inside a.unused absent (ready_slots engine) (omega (arith, few)))

  -- the batches in ticket order: those that waited, and the new one
  pub added-waiting : waiting (with_batch engine at b) ≡ waiting engine ++ (b ∷ [])
  unfolding with_batch
  added-waiting = order

  bytes : ready_bytes engine ≡ total_length (waiting engine)
  bytes = sum-waiting engine v few (λ x. x.length)

  placed : b.offset ≡ wrap_offset engine.setup.ring (engine.read_offset + total_length (waiting engine))
  placed = ap (λ (n : ℕ). wrap_offset engine.setup.ring (engine.read_offset + n)) bytes

  fits : total_length (waiting engine) + size ≤ engine.setup.ring
  fits = omega (arith, a.room, bytes)

  -- the windows and the open clients are as they were
  pub added_windows : open_windows (with_batch engine at b) ≡ open_windows engine
  unfolding with_batch
  added_windows = windows_set engine.clients client _

  -- the same clients are open
  added_open : (k : ℕ) → is_open engine k ≡ true → is_open (with_batch engine at b) k ≡ true
  unfolding with_batch
  added_open k e = let o = open_place engine k e in place_open (with_batch engine at b) k o.0 (opened-set engine.clients client _ k ∙ o.1)

  window-rule : windows_rule engine ≡ true → windows_rule (with_batch engine at b) ≡ true
  unfolding with_batch
  window-rule e = rw added_windows e

  counts : pending_counts_match 0 (pending_raised engine.clients client) (ready_batches slots) ≡ true
  counts =
      counts_raised client engine.clients (ready_batches engine.slots) (ready_batches slots) (open_place engine client a.owner).1
      (λ j. sum-new b (λ x. cond (eqb x.client j) 1 0) engine.slots at inside a.unused) v.counts

  number-rule : number_rules (with_batch engine at b) ≡ true
  unfolding with_batch
  number-rule = numbers-kept engine a.ok

  ticket-rule : tickets_rule (with_batch engine at b) ≡ true
  unfolding with_batch
  ticket-rule = rw one_more (given-more b engine.next_ticket engine.slots at refl s.next_ticket inside a.unused absent (ready_slots engine) (omega (arith, few)) v.given)

  line_rules : (end_to_end_rule (with_batch engine at b) ≡ true) × (lengths_rule (with_batch engine at b) ≡ true) × (total_length (waiting (with_batch engine at b)) ≤ (with_batch engine at b).setup.ring)
      × (owners_rule (with_batch engine at b) ≡ true)
  unfolding with_batch
  line_rules = (
    rw order (end-last engine.setup.ring engine.read_offset v.numbers.below (waiting engine) b v.within v.ends placed),
    rw order (lengths_snoc engine.setup.ring (waiting engine) b v.lengths a.allowed),
    rw order (omega (arith, sum-snoc (λ x. x.length) (waiting engine) b, fits)),
    rw order (open_more engine (with_batch engine at b) (waiting engine ++ (b ∷ [])) added_open (open_snoc engine (waiting engine) b v.owners a.owner)),
  )

  count-rule : pending_rule (with_batch engine at b) ≡ true
  unfolding with_batch
  count-rule = counts

  staged-rule : staged_rule (with_batch engine at b) ≡ true
  unfolding with_batch
  staged-rule = idle-kept (with_batch engine at b) refl

  -- the record stays valid
  pub added-valid : valid (with_batch engine at b) ≡ true
  added-valid = valid-made (with_batch engine at b) number-rule (window-rule v.windows) ticket-rule line_rules.0 line_rules.1 line_rules.2 line_rules.3 count-rule staged-rule

-- the bytes of every batch that waited are as they were, and those of the new one are what was copied in; g puts a batch and its bytes together
module _ {A : Type 0} (g : Batch → List ℕ → A) (engine : EngineRecord) (s : Sized engine) (ring : List ℕ) (long : length ring ≡ engine.setup.ring) (at client : ℕ) (batch : List ℕ)
    (a : Addable engine at client (length batch)) where
  pub added-held : held g (copied_in ring (write_offset engine) batch) (waiting (with_batch engine at (new_batch engine client (length batch)))) ≡
      held g ring (waiting engine) ++ (g (new_batch engine client (length batch)) batch ∷ [])
  added-held =
      let v = valid_facts engine a.ok in
      let b : Batch = new_batch engine client (length batch) in
      let room = fits engine s at client (length batch) a in
      let p = placed engine s at client (length batch) a in
      ap (held g (copied_in ring (write_offset engine) batch)) (added-waiting engine s at client (length batch) a)
      ∙ ap (λ (o : ℕ). held g (copied_in ring o batch) (waiting engine ++ (b ∷ []))) p
      ∙ (rw long at (held_new g ring engine.read_offset (waiting engine) b batch (omega (arith, v.numbers.below)) (omega arith) (rw long v.ends) (rw long p) refl))
