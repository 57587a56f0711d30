-- The calls keep what the types say of a record.
use mathlib.Core.Path.{◌≡◌}
use mathlib.Core.Bool.{Bool, true, false, cond}
use mathlib.Core.List.{List, [], ◌∷◌}
use Prim.Native.Nat.{ℕ, zero, suc, ◌+◌, ◌-◌, ◌≤◌, ◌<◌, ◌^◌}
use native.Mathlib.Omega.{arith}
use lib.ListN.{length, get_or, set}
use Rattle.engine_record.specs.declared.Setup.{Setup}
use Rattle.engine_record.specs.declared.Window.{Window}
use Rattle.engine_record.specs.declared.Client.{Client}
use Rattle.engine_record.specs.declared.Batch.{Batch}
use Rattle.std.proofs.Common.{Option}
use Rattle.engine_record.specs.declared.Staged.{Staged}
use Rattle.engine_record.specs.declared.EngineRecord.{EngineRecord}
use Rattle.engine_record.specs.Slots.{free, lowest_free}
use Rattle.engine_record.specs.Clients.{is_open, no_client, lowest_closed}
use Rattle.engine_record.specs.Staged.{no_staged}
use Rattle.engine_record.specs.Queue.{ready_slots}
use Rattle.engine_record.specs.Rules.{valid}
use Rattle.queue.specs.Refusals.{first_refusal, open_table, submit_table, cancel_table, close_table}
use Rattle.queue.specs.Calls.{initial_record, with_client, open_result, new_batch, with_batch, submitted, submit_number, submit_result, with_staged, begun, begin_result, more, is_last, piece_number, after_piece, piece_result, cancel_result, without_client, close_result}
use Rattle.queue.proofs.Refusals.{submit-allowed, piece-allowed}
use Rattle.queue.proofs.Validity.{Sized, few-taken, fresh_sized, open_sized, close-sized, staged-sized}
use Rattle.queue.proofs.Room.{pending-small}
use Rattle.queue.proofs.Submitted.{added-sized}
use Rattle.queue.proofs.Preservation.{unless_keeps}
use Rattle.engine.specs.Run.{run_number, oldest, without_oldest, run_result}
use Rattle.engine.proofs.Preservation.{run-sized}
use Rattle.record_bytes.specs.RoundTrip.{AllClients, AllSlots, ClientTyped, StateTyped, Typed}
use Rattle.record_bytes.proofs.Words.{client-at}

pub sized : {e : EngineRecord} → Typed e → Sized e
sized t = record { clients = t.four; slots = t.eight; next_ticket = t.next_ticket }

typed : (e : EngineRecord) → Sized e → AllClients ClientTyped e.clients → AllSlots StateTyped e.slots → e.staged.client < 2 ^ 32 → Typed e
typed e s cs ss g = record { four = s.clients; eight = s.slots; clients = cs; slots = ss; next_ticket = s.next_ticket; staged = g }

clients-set : (P : Client → Type 0) (cs : List Client) (i : ℕ) (c : Client) → AllClients P cs → P c → AllClients P (set cs i c)
clients-set P [] i c h p = tt
clients-set P (x ∷ cs) zero c h p = (p, h.1)
clients-set P (x ∷ cs) (suc i) c h p = (h.0, clients-set P cs i c h.1 p)

slots_set : (P : Option Batch → Type 0) (ss : List (Option Batch)) (i : ℕ) (s : Option Batch) → AllSlots P ss → P s → AllSlots P (set ss i s)
slots_set P [] i s h p = tt
slots_set P (x ∷ ss) zero s h p = (p, h.1)
slots_set P (x ∷ ss) (suc i) s h p = (h.0, slots_set P ss i s h.1 p)

none-typed : ClientTyped no_client
none-typed = (omega arith, omega arith, omega arith)

-- the client at a place, with another count
counted : (e : EngineRecord) → Typed e → (client n : ℕ) → n < 2 ^ 32 → ClientTyped (record { window = (get_or e.clients client no_client).window; pending = n; opened = (get_or e.clients client no_client).opened })
counted e t client n h =
    let c = client-at ClientTyped none-typed e.clients t.clients client in
    (c.0, c.1, h)

pub fresh_typed : (setup : Setup) → Typed (initial_record setup)
unfolding initial_record
fresh_typed setup = typed (initial_record setup) (fresh_sized setup) (none-typed, (none-typed, (none-typed, (none-typed, tt)))) (tt, (tt, (tt, (tt, (tt, (tt, (tt, (tt, tt)))))))) (omega arith)

module _ (e : EngineRecord) (t : Typed e) where
  pub open_typed : (w : Window) → (w.start < 2 ^ 32) × (w.length < 2 ^ 32) → Typed (open_result e w).engine
  unfolding open_result with_client
  open_typed w h =
      unless_keeps Typed (first_refusal (open_table e w)) e (with_client e w) t
      (λ z. typed (with_client e w) (open_sized e w (sized t)) (clients-set ClientTyped e.clients (lowest_closed e.clients) (record { window = w; pending = 0; opened = true }) t.clients (h.0, h.1, omega arith)) t.slots t.staged)

  -- a batch more in the slot `at`
  added-typed : (at client size : ℕ) → valid e ≡ true → is_open e client ≡ true → client < 2 ^ 32 → Typed (with_batch e at (new_batch e client size))
  unfolding with_batch
  added-typed at client size ok owner h =
      let few : (get_or e.clients client no_client).pending ≤ ready_slots e = pending-small e ok client owner in
      let eight = few-taken e (sized t) in
      typed (with_batch e at (new_batch e client size)) (added-sized e at (new_batch e client size) (sized t))
      (clients-set ClientTyped e.clients client _ t.clients (counted e t client ((get_or e.clients client no_client).pending + 1) (omega arith)))
      (slots_set StateTyped e.slots at _ t.slots (h, t.next_ticket))
      (omega arith)

  -- another staged submission, or none
  staged-typed : (g : Staged) → g.client < 2 ^ 32 → Typed (with_staged e g)
  unfolding with_staged
  staged-typed g h = typed (with_staged e g) (staged-sized e g (sized t)) t.clients t.slots h

  pub submit-typed : (ring : List ℕ) (client : ℕ) (batch : List ℕ) → client < 2 ^ 32 → Typed (submit_result e ring client batch).engine
  unfolding submit_result
  submit-typed ring client batch h =
      unless_keeps Typed (submit_number e ring client batch) e (submitted e client (length batch)) t
      (λ z.
      let a = submit-allowed e (length ring) client (length batch) z in
      added-typed (lowest_free e.slots) client (length batch) a.ok a.owner h)

  pub begin-typed : (ring client total : ℕ) → client < 2 ^ 32 → Typed (begin_result e ring client total).engine
  unfolding begin_result
  begin-typed ring client total h =
      unless_keeps Typed (first_refusal (submit_table e ring client total)) e (with_staged e (begun e client total)) t (λ z. staged-typed (begun e client total) h)

  pub piece-typed : (ring : List ℕ) (client : ℕ) (piece : List ℕ) → Typed (piece_result e ring client piece).engine
  unfolding piece_result
  piece-typed ring client piece =
      unless_keeps Typed (piece_number e ring client piece) e (after_piece e (length piece)) t
      (λ z.
      let o = (piece-allowed e (length ring) client (length piece) z).own in
      go o.ok o.unfinished.owner (is_last e.staged (length piece)))
    where
      go : valid e ≡ true → is_open e e.staged.client ≡ true → (b : Bool) →
          Typed (cond b (with_batch e e.staged.slot (new_batch e e.staged.client e.staged.total)) (with_staged e (more e.staged (length piece))))
      go ok owner true = added-typed e.staged.slot e.staged.client e.staged.total ok owner t.staged
      go ok owner false = staged-typed (more e.staged (length piece)) t.staged

  pub cancel-typed : (client : ℕ) → Typed (cancel_result e client).engine
  unfolding cancel_result
  cancel-typed client = unless_keeps Typed (first_refusal (cancel_table e client)) e (with_staged e no_staged) t (λ z. staged-typed no_staged (omega arith))

  pub close-typed : (memory client : ℕ) → Typed (close_result e memory client).engine
  unfolding close_result without_client
  close-typed memory client =
      unless_keeps Typed (first_refusal (close_table e memory client)) e (without_client e client) t
      (λ z. typed (without_client e client) (close-sized e client (sized t)) (clients-set ClientTyped e.clients client no_client t.clients none-typed) t.slots t.staged)

  pub run_typed : (ring memory : List ℕ) → Typed (run_result e ring memory).engine
  unfolding run_result without_oldest
  run_typed ring memory =
      let client = (oldest e).client in
      let before = client-at ClientTyped none-typed e.clients t.clients client in
      unless_keeps Typed (run_number e ring memory) e (without_oldest e) t
      (λ z. typed (without_oldest e) (run-sized e (sized t))
      (clients-set ClientTyped e.clients client _ t.clients (counted e t client ((get_or e.clients client no_client).pending - 1) (omega (arith, before.2))))
      (slots_set StateTyped e.slots _ free t.slots tt)
      t.staged)
