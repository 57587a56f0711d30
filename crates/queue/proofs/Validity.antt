-- A valid record stays valid through every call that is not refused.
use Rattle.std.proofs.Common.{◌≡◌, ℕ, ◌+◌, ◌<◌, ◌≤◌, Bool, true, false, cond, ◌&&◌, eqb, ltb, [], length, sym, refl, ap, ◌∙◌, arith, length-set, lt-ltb, eq-eqb, le-leb}
use borrow.Author.Tests.{eqb-false}
use Rattle.engine_record.specs.declared.Setup.{Setup}
use Rattle.engine_record.specs.declared.Window.{Window}
use Rattle.engine_record.specs.declared.Client.{Client}
use Rattle.engine_record.specs.declared.EngineRecord.{EngineRecord}
use Rattle.engine_record.specs.declared.Staged.{Staged}
use Rattle.engine_record.specs.Slots.{ready_batches, sum_over, total_length, count_of}
use Rattle.engine_record.specs.Tickets.{tickets_consecutive, in_ticket_order}
use Rattle.engine_record.specs.Clients.{no_client, client_at, is_open, open_windows, windows_of, lowest_closed, bad_window, windows_valid, pending_counts_match}
use Rattle.engine_record.specs.Staged.{staged_by}
use Rattle.engine_record.specs.Queue.{ready_slots, waiting}
use Rattle.engine_record.specs.Rules.{number_rules, windows_rule, tickets_rule, end_to_end, end_to_end_rule, lengths_allowed, lengths_rule, clients_open, owners_rule, pending_rule, staged_rule, valid}
use Rattle.engine_record.proofs.Slots.{ready_most}
use Rattle.engine_record.proofs.Clients.{closed_is, open_place, place_open}
use Rattle.engine_record.proofs.Opened.{opened-more, opened-other, none_put, open_more, open_none, open_fewer, counts_put}
use Rattle.engine_record.proofs.Unfinished.{staged-stays}
use Rattle.engine_record.proofs.Rules.{ring-good, Valid, valid_facts, valid-made, numbers-kept, sum-waiting}
use Rattle.queue.specs.Calls.{initial_record, with_client, without_client, with_staged}
use Rattle.queue.proofs.Refusals.{SetUpAllowed, OpenAllowed, CloseAllowed}

-- what every record of the code has
pub record Sized (engine : EngineRecord) : Type 0 where
  pub clients : length engine.clients ≡ 4
  pub slots : length engine.slots ≡ 8
  pub next_ticket : engine.next_ticket < 4294967296

pub few-taken : (engine : EngineRecord) → Sized engine → ready_slots engine ≤ 8
few-taken engine s = omega (arith, ready_most engine.slots, s.slots)

-- ---- set up

pub fresh_sized : (setup : Setup) → Sized (initial_record setup)
unfolding initial_record
fresh_sized setup = record { clients = refl; slots = refl; next_ticket = omega arith }

pub fresh_valid : (setup : Setup) → SetUpAllowed setup → valid (initial_record setup) ≡ true
unfolding initial_record valid windows_of windows_valid ready_batches sum_over tickets_consecutive in_ticket_order end_to_end lengths_allowed clients_open pending_counts_match
fresh_valid setup a =
    let good = ring-good setup a.ring in
    rw (a.ring, a.memory, lt-ltb 0 setup.ring good.some, le-leb 0 setup.ring (omega arith))

-- nothing waits in it
pub fresh_waiting : (setup : Setup) → waiting (initial_record setup) ≡ []
unfolding initial_record ready_batches in_ticket_order
fresh_waiting setup = refl

-- ---- open

module _ (engine : EngineRecord) (w : Window) (s : Sized engine) where
  -- the new client and its id
  abbrev new_client : Client
  new_client = record { window = w; pending = 0; opened = true }

  abbrev id : ℕ
  id = lowest_closed engine.clients

  pub open_sized : Sized (with_client engine w)
  unfolding with_client
  open_sized = record { clients = length-set engine.clients id new_client ∙ s.clients; slots = s.slots; next_ticket = s.next_ticket }

  -- the batches are as they were
  pub open_waiting : waiting (with_client engine w) ≡ waiting engine
  unfolding with_client
  open_waiting = refl

  number-rules : OpenAllowed engine w → number_rules (with_client engine w) ≡ true
  unfolding with_client
  number-rules a = numbers-kept engine a.ok

  still_open : (k : ℕ) → is_open engine k ≡ true → is_open (with_client engine w) k ≡ true
  unfolding with_client
  still_open k e = let o = open_place engine k e in place_open (with_client engine w) k o.0 (opened-more engine.clients id k new_client refl o.1)

  owner_rule : clients_open engine (waiting engine) ≡ true → owners_rule (with_client engine w) ≡ true
  unfolding with_client
  owner_rule e = open_more engine (with_client engine w) (waiting engine) still_open e

  window-rule : windows_rule engine ≡ true → bad_window engine.setup (open_windows engine) w ≡ false → windows_rule (with_client engine w) ≡ true
  unfolding with_client
  window-rule e good = none_put engine.setup engine.clients id new_client e good

  count-rule : pending_rule engine ≡ true → count_of id (ready_batches engine.slots) ≡ 0 → pending_rule (with_client engine w) ≡ true
  unfolding with_client
  count-rule e none = counts_put 0 id engine.clients new_client (ready_batches engine.slots) e (eq-eqb 0 (count_of (0 + id) (ready_batches engine.slots)) (sym (ap (λ (x : ℕ). count_of x (ready_batches engine.slots)) (let z : 0 + id ≡ id = omega arith in z) ∙ none)))

  staged-rule : staged_rule engine ≡ true → staged_rule (with_client engine w) ≡ true
  unfolding with_client
  staged-rule e = staged-stays engine (with_client engine w) refl refl (λ _. still_open engine.staged.client) (omega arith) (λ i h. h) e

  batch-rules : Valid engine → (tickets_rule (with_client engine w) ≡ true) × (end_to_end_rule (with_client engine w) ≡ true) × (lengths_rule (with_client engine w) ≡ true)
      × (total_length (waiting (with_client engine w)) ≤ (with_client engine w).setup.ring)
  unfolding with_client
  batch-rules v = (v.given, v.ends, v.lengths, v.within)

  -- no client has the id yet
  closed-id : (b : Bool) → (b && (client_at engine id).opened) ≡ false
  closed-id true = closed_is engine.clients
  closed-id false = refl

  pub open_valid : OpenAllowed engine w → valid (with_client engine w) ≡ true
  open_valid a =
      let v = valid_facts engine a.ok in
      let b = batch-rules v in
      let none : count_of id (ready_batches engine.slots) ≡ 0 =
      sum-waiting engine v (few-taken engine s) (λ b. cond (eqb b.client id) 1 0) ∙ open_none engine id (waiting engine) (closed-id (ltb id 4)) v.owners
      in
      valid-made (with_client engine w)
      (number-rules a)
      (window-rule v.windows a.good)
      b.0
      b.1
      b.2
      b.3
      (owner_rule v.owners)
      (count-rule v.counts none)
      (staged-rule v.staged)

-- ---- close

module _ (engine : EngineRecord) (client : ℕ) where
  pub close-sized : Sized engine → Sized (without_client engine client)
  unfolding without_client
  close-sized s = record { clients = length-set engine.clients client no_client ∙ s.clients; slots = s.slots; next_ticket = s.next_ticket }

  -- the batches are as they were
  pub close-waiting : waiting (without_client engine client) ≡ waiting engine
  unfolding without_client
  close-waiting = refl

  others_open : (k : ℕ) → ¬ (k ≡ client) → is_open engine k ≡ true → is_open (without_client engine client) k ≡ true
  unfolding without_client
  others_open k n e = let o = open_place engine k e in place_open (without_client engine client) k o.0 (opened-other engine.clients client k no_client n o.1)

  closed-rules : Valid engine → (windows_rule (without_client engine client) ≡ true) × (tickets_rule (without_client engine client) ≡ true) × (end_to_end_rule (without_client engine client) ≡ true)
      × (lengths_rule (without_client engine client) ≡ true) × (total_length (waiting (without_client engine client)) ≤ (without_client engine client).setup.ring) × (pending_rule (without_client engine client) ≡ true)
  unfolding without_client
  closed-rules v = (
    none_put engine.setup engine.clients client no_client v.windows refl,
    v.given,
    v.ends,
    v.lengths,
    v.within,
    counts_put 0 client engine.clients no_client (ready_batches engine.slots) v.counts refl,
  )

  closed-numbers : valid engine ≡ true → number_rules (without_client engine client) ≡ true
  unfolding without_client
  closed-numbers ok = numbers-kept engine ok

  closed_owners : count_of client (waiting engine) ≡ 0 → owners_rule engine ≡ true → owners_rule (without_client engine client) ≡ true
  unfolding without_client
  closed_owners none e = open_fewer engine (without_client engine client) client (waiting engine) others_open none e

  -- another client's staged submission stays
  closed-staged : staged_by engine.staged client ≡ false → staged_rule engine ≡ true → staged_rule (without_client engine client) ≡ true
  unfolding without_client
  closed-staged other e =
      staged-stays engine (without_client engine client) refl refl
      (λ i o. others_open engine.staged.client (eqb-false _ _ (rw i at other)) o)
      (omega arith) (λ i h. h) e

  pub close-valid : Sized engine → (given : ℕ) → CloseAllowed engine given client → valid (without_client engine client) ≡ true
  close-valid s given a =
      let v = valid_facts engine a.ok in
      let r = closed-rules v in
      let none : count_of client (waiting engine) ≡ 0 = sym (sum-waiting engine v (few-taken engine s) (λ b. cond (eqb b.client client) 1 0)) ∙ a.none in
      valid-made (without_client engine client) (closed-numbers a.ok) r.0 r.1 r.2 r.3 r.4 (closed_owners none v.owners) r.5 (closed-staged a.idle v.staged)

-- ---- another staged submission, or none

module _ (engine : EngineRecord) (g : Staged) where
  pub staged-sized : Sized engine → Sized (with_staged engine g)
  unfolding with_staged
  staged-sized s = record { clients = s.clients; slots = s.slots; next_ticket = s.next_ticket }

  rules : Valid engine → (windows_rule (with_staged engine g) ≡ true) × (tickets_rule (with_staged engine g) ≡ true) × (end_to_end_rule (with_staged engine g) ≡ true) × (lengths_rule (with_staged engine g) ≡ true)
      × (total_length (waiting (with_staged engine g)) ≤ (with_staged engine g).setup.ring) × (pending_rule (with_staged engine g) ≡ true)
  unfolding with_staged
  rules v = (v.windows, v.given, v.ends, v.lengths, v.within, v.counts)

  owners : Valid engine → owners_rule (with_staged engine g) ≡ true
  unfolding with_staged
  owners v = open_more engine (with_staged engine g) (waiting engine) (λ k e. e) v.owners

  numbers_stay : valid engine ≡ true → number_rules (with_staged engine g) ≡ true
  unfolding with_staged
  numbers_stay ok = numbers-kept engine ok

  pub staged-valid : valid engine ≡ true → staged_rule (with_staged engine g) ≡ true → valid (with_staged engine g) ≡ true
  staged-valid ok e =
      let v = valid_facts engine ok in
      let r = rules v in
      valid-made (with_staged engine g) (numbers_stay ok) r.0 r.1 r.2 r.3 r.4 (owners v) r.5 e
