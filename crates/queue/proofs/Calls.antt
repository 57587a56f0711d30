-- Each call by its refusal number: refused, or done.
use Rattle.std.proofs.Common.{◌≡◌, ℕ, zero, suc, ◌+◌, ◌-◌, Bool, List, length, Result, Ok, Err, sym, refl, ap, ◌∙◌, ap₂, eq-eqb, ne_eqb}
use Rattle.ring.specs.Copied.{copied_in}
use Rattle.engine_record.specs.declared.Setup.{Setup}
use Rattle.engine_record.specs.declared.Window.{Window}
use Rattle.engine_record.specs.declared.EngineRecord.{EngineRecord}
use Rattle.engine_record.specs.Slots.{ready_batches, count_of}
use Rattle.engine_record.specs.Clients.{lowest_closed}
use Rattle.engine_record.specs.Staged.{no_staged}
use Rattle.engine_record.specs.Queue.{write_offset}
use Rattle.queue.specs.declared.Refusal.{Refusal}
use Rattle.queue.specs.declared.Answer.{Answer}
use Rattle.queue.specs.declared.Answer.TheVariants.{Done, Opened, Accepted, Ready, Missing}
use Rattle.queue.specs.declared.Reply.{Reply}
use Rattle.queue.specs.Answers.{number_of, refusal_numbered, answer_unless_refused}
use Rattle.queue.specs.Refusals.{first_refusal, set_up_table, open_table, submit_table, cancel_table, close_table, pending_table}
use Rattle.queue.proofs.Refusals.{not_zero, numbered}
use Rattle.queue.specs.Calls.{unless_refused, initial_record, no_setup, set_up_result, with_client, open_result, submitted, submit_number, submit_result, submit_ring, new_batch, with_batch, with_staged, begun, begin_result, more, is_last, piece_number, piece_answer, after_piece, piece_result, piece_offset, piece_ring, cancel_result, without_client, close_result, pending_answer}

pub answered_no : {A : Type 0} (n : ℕ) (a : A) → (n ≡ 0 → ⊥) → answer_unless_refused n a ≡ Err (refusal_numbered n)
unfolding answer_unless_refused
answered_no zero a h = absurd (h refl)
answered_no (suc n) a h = refl

-- the same of a refusal that the code answers
pub answered_by : {A : Type 0} (n : ℕ) (a : A) (r : Refusal) → n ≡ number_of r → answer_unless_refused n a ≡ Err r
answered_by n a r e = answered_no n a (not_zero r n e) ∙ ap (λ (m : ℕ). Err (refusal_numbered m)) e ∙ ap Err (numbered r)

pub answered-yes : {A : Type 0} (n : ℕ) (a : A) → n ≡ 0 → answer_unless_refused n a ≡ Ok a
unfolding answer_unless_refused
answered-yes n a e = rw e

pub unless_no : {A : Type 0} (n : ℕ) (before after : A) → (n ≡ 0 → ⊥) → unless_refused n before after ≡ before
unfolding unless_refused
unless_no zero before after h = absurd (h refl)
unless_no (suc n) before after h = refl

pub unless_yes : {A : Type 0} (n : ℕ) (before after : A) → n ≡ 0 → unless_refused n before after ≡ after
unfolding unless_refused
unless_yes n before after e = rw e

reply : {a a' : Result Answer Refusal} {e e' : EngineRecord} → a ≡ a' → e ≡ e' → ◌≡◌ {A = Reply} (record { answer = a; engine = e }) (record { answer = a'; engine = e' })
reply p q = ap₂ (λ (a : Result Answer Refusal) (e : EngineRecord). record { answer = a; engine = e }) p q

module _ (setup : Setup) (n : ℕ) (is : n ≡ first_refusal (set_up_table setup)) (after : EngineRecord) where
  pub set-up-done : n ≡ 0 → after ≡ initial_record setup → record { answer = Ok Done; engine = after } ≡ set_up_result setup.ring setup.memory setup.common setup.reset
  unfolding set_up_result
  set-up-done z e = reply (sym (answered-yes _ Done (sym is ∙ z))) (e ∙ sym (unless_yes _ (initial_record no_setup) (initial_record setup) (sym is ∙ z)))

  pub set-up-refused : (r : Refusal) → n ≡ number_of r → after ≡ initial_record no_setup → record { answer = Err r; engine = after } ≡ set_up_result setup.ring setup.memory setup.common setup.reset
  unfolding set_up_result
  set-up-refused r q e =
      reply (sym (answered_by _ Done r (sym is ∙ q))) (e ∙ sym (unless_no _ (initial_record no_setup) (initial_record setup) (not_zero r _ (sym is ∙ q))))

module _ (engine : EngineRecord) (w : Window) (n : ℕ) (is : n ≡ first_refusal (open_table engine w)) where
  pub open_refused : (r : Refusal) → n ≡ number_of r → record { answer = Err r; engine = engine } ≡ open_result engine w
  unfolding open_result
  open_refused r q =
      reply (sym (answered_by _ (Opened (lowest_closed engine.clients)) r (sym is ∙ q))) (sym (unless_no _ engine (with_client engine w) (not_zero r _ (sym is ∙ q))))

  pub open_done : n ≡ 0 → (id : ℕ) → id ≡ lowest_closed engine.clients → (after : EngineRecord) → after ≡ with_client engine w → record { answer = Ok (Opened id); engine = after } ≡ open_result engine w
  unfolding open_result
  open_done z id i after e =
      reply (ap (λ (k : ℕ). Ok (Opened k)) i ∙ sym (answered-yes _ (Opened (lowest_closed engine.clients)) (sym is ∙ z))) (e ∙ sym (unless_yes _ engine (with_client engine w) (sym is ∙ z)))

module _ (engine : EngineRecord) (ring : List ℕ) (client : ℕ) (batch : List ℕ) (n : ℕ) (is : n ≡ submit_number engine ring client batch) where
  -- a refusal changes neither record nor ring
  pub submit-refused : (r : Refusal) → n ≡ number_of r → (record { answer = Err r; engine = engine } ≡ submit_result engine ring client batch) × (ring ≡ submit_ring engine ring client batch)
  unfolding submit_result submit_ring
  submit-refused r q =
      let h : submit_number engine ring client batch ≡ 0 → ⊥ = not_zero r _ (sym is ∙ q) in (
        reply (sym (answered_by _ (Accepted engine.next_ticket) r (sym is ∙ q))) (sym (unless_no _ engine (submitted engine client (length batch)) h)),
        sym (unless_no _ ring (copied_in ring (write_offset engine) batch) h),
      )

  pub submit-done : n ≡ 0 → (after : EngineRecord) (new : List ℕ) → after ≡ submitted engine client (length batch) → new ≡ copied_in ring (write_offset engine) batch →
      (record { answer = Ok (Accepted engine.next_ticket); engine = after } ≡ submit_result engine ring client batch) × (new ≡ submit_ring engine ring client batch)
  unfolding submit_result submit_ring
  submit-done z after new e r =
      let h : submit_number engine ring client batch ≡ 0 = sym is ∙ z in (
        reply (sym (answered-yes _ (Accepted engine.next_ticket) h)) (e ∙ sym (unless_yes _ engine (submitted engine client (length batch)) h)),
        r ∙ sym (unless_yes _ ring (copied_in ring (write_offset engine) batch) h),
      )

module _ (engine : EngineRecord) (ring client total n : ℕ) (is : n ≡ first_refusal (submit_table engine ring client total)) where
  pub begin-refused : (r : Refusal) → n ≡ number_of r → record { answer = Err r; engine = engine } ≡ begin_result engine ring client total
  unfolding begin_result
  begin-refused r q =
      reply (sym (answered_by _ Done r (sym is ∙ q))) (sym (unless_no _ engine (with_staged engine (begun engine client total)) (not_zero r _ (sym is ∙ q))))

  pub begin-done : n ≡ 0 → (after : EngineRecord) → after ≡ with_staged engine (begun engine client total) → record { answer = Ok Done; engine = after } ≡ begin_result engine ring client total
  unfolding begin_result
  begin-done z after e = reply (sym (answered-yes _ Done (sym is ∙ z))) (e ∙ sym (unless_yes _ engine (with_staged engine (begun engine client total)) (sym is ∙ z)))

module _ (engine : EngineRecord) (ring : List ℕ) (client : ℕ) (piece : List ℕ) (n : ℕ) (is : n ≡ piece_number engine ring client piece) where
  -- a refusal changes neither record nor ring
  pub piece-refused : (r : Refusal) → n ≡ number_of r → (record { answer = Err r; engine = engine } ≡ piece_result engine ring client piece) × (ring ≡ piece_ring engine ring client piece)
  unfolding piece_result piece_ring
  piece-refused r q =
      let h : piece_number engine ring client piece ≡ 0 → ⊥ = not_zero r _ (sym is ∙ q) in (
        reply (sym (answered_by _ (piece_answer engine (length piece)) r (sym is ∙ q))) (sym (unless_no _ engine (after_piece engine (length piece)) h)),
        sym (unless_no _ ring (copied_in ring (piece_offset engine) piece) h),
      )

  pub piece-done : n ≡ 0 → (answer : Answer) (after : EngineRecord) (new : List ℕ) → answer ≡ piece_answer engine (length piece) → after ≡ after_piece engine (length piece) → new ≡ copied_in ring (piece_offset engine) piece →
      (record { answer = Ok answer; engine = after } ≡ piece_result engine ring client piece) × (new ≡ piece_ring engine ring client piece)
  unfolding piece_result piece_ring
  piece-done z answer after new a e r =
      let h : piece_number engine ring client piece ≡ 0 = sym is ∙ z in (
        reply (ap Ok a ∙ sym (answered-yes _ (piece_answer engine (length piece)) h)) (e ∙ sym (unless_yes _ engine (after_piece engine (length piece)) h)),
        r ∙ sym (unless_yes _ ring (copied_in ring (piece_offset engine) piece) h),
      )

module _ (engine : EngineRecord) (client n : ℕ) (is : n ≡ first_refusal (cancel_table engine client)) where
  pub cancel-refused : (r : Refusal) → n ≡ number_of r → record { answer = Err r; engine = engine } ≡ cancel_result engine client
  unfolding cancel_result
  cancel-refused r q = reply (sym (answered_by _ Done r (sym is ∙ q))) (sym (unless_no _ engine (with_staged engine no_staged) (not_zero r _ (sym is ∙ q))))

  pub cancel-done : n ≡ 0 → (after : EngineRecord) → after ≡ with_staged engine no_staged → record { answer = Ok Done; engine = after } ≡ cancel_result engine client
  unfolding cancel_result
  cancel-done z after e = reply (sym (answered-yes _ Done (sym is ∙ z))) (e ∙ sym (unless_yes _ engine (with_staged engine no_staged) (sym is ∙ z)))

module _ (engine : EngineRecord) (memory client n : ℕ) (is : n ≡ first_refusal (close_table engine memory client)) where
  pub close-refused : (r : Refusal) → n ≡ number_of r → record { answer = Err r; engine = engine } ≡ close_result engine memory client
  unfolding close_result
  close-refused r q = reply (sym (answered_by _ Done r (sym is ∙ q))) (sym (unless_no _ engine (without_client engine client) (not_zero r _ (sym is ∙ q))))

  pub close-done : n ≡ 0 → (after : EngineRecord) → after ≡ without_client engine client → record { answer = Ok Done; engine = after } ≡ close_result engine memory client
  unfolding close_result
  close-done z after e = reply (sym (answered-yes _ Done (sym is ∙ z))) (e ∙ sym (unless_yes _ engine (without_client engine client) (sym is ∙ z)))

-- the last piece, and one before it
module _ (engine : EngineRecord) (size : ℕ) where
  abbrev last : Bool
  last = is_last engine.staged size

  pub last-answer : engine.staged.received + size ≡ engine.staged.total → Accepted engine.next_ticket ≡ piece_answer engine size
  last-answer e = rw (eq-eqb (engine.staged.received + size) engine.staged.total e)

  pub last_record : engine.staged.received + size ≡ engine.staged.total →
      with_batch engine engine.staged.slot (new_batch engine engine.staged.client engine.staged.total) ≡ after_piece engine size
  last_record e = rw (eq-eqb (engine.staged.received + size) engine.staged.total e)

  pub more-answer : ¬ (engine.staged.received + size ≡ engine.staged.total) → (left : ℕ) → left ≡ engine.staged.total - (engine.staged.received + size) → Missing left ≡ piece_answer engine size
  more-answer e left is = rw (ne_eqb (engine.staged.received + size) engine.staged.total e) (ap Missing is)

  pub more_record : ¬ (engine.staged.received + size ≡ engine.staged.total) → with_staged engine (more engine.staged size) ≡ after_piece engine size
  more_record e = rw (ne_eqb (engine.staged.received + size) engine.staged.total e)

module _ (engine : EngineRecord) (client n : ℕ) (is : n ≡ first_refusal (pending_table engine client)) where
  pub pending-refused : (r : Refusal) → n ≡ number_of r → Err r ≡ pending_answer engine client
  unfolding pending_answer
  pending-refused r q = sym (answered_by _ (Ready (count_of client (ready_batches engine.slots))) r (sym is ∙ q))

  pub pending_done : n ≡ 0 → (k : ℕ) → k ≡ count_of client (ready_batches engine.slots) → Ok (Ready k) ≡ pending_answer engine client
  unfolding pending_answer
  pending_done z k e = ap (λ (j : ℕ). Ok (Ready j)) e ∙ sym (answered-yes _ (Ready (count_of client (ready_batches engine.slots))) (sym is ∙ z))
