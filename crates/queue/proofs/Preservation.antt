-- The calls as a whole: their numbers are the table's, a refusal changes nothing, and a valid record stays valid.
use Rattle.std.proofs.Common.{◌≡◌, ℕ, zero, suc, ◌+◌, Bool, true, false, cond, List, length, Err, sym, refl, arith}
use borrow.Author.Tests.{eqb-false}
use Rattle.engine_record.specs.declared.Setup.{Setup}
use Rattle.engine_record.specs.declared.Window.{Window}
use Rattle.engine_record.specs.declared.EngineRecord.{EngineRecord}
use Rattle.engine_record.specs.Slots.{lowest_free}
use Rattle.engine_record.specs.Clients.{lowest_closed}
use Rattle.engine_record.specs.Staged.{no_staged}
use Rattle.engine_record.specs.Rules.{staged_rule, valid}
use Rattle.engine_record.proofs.Rules.{length-good}
use Rattle.engine_record.proofs.Unfinished.{unfinished_kept, idle-kept}
use Rattle.queue.specs.declared.Answer.TheVariants.{Done, Opened, Accepted}
use Rattle.queue.specs.Answers.{refusal_numbered, refusal_number_of, answer_unless_refused}
use Rattle.queue.specs.Refusals.{first_refusal, set_up_table, open_table, submit_table, cancel_table, close_table}
use Rattle.queue.specs.Calls.{unless_refused, set_up_result, with_client, open_result, new_batch, with_batch, submitted, submit_number, submit_result, submit_ring, with_staged, begun, begin_result, more, is_last, piece_number, piece_answer, after_piece, piece_result, piece_ring, cancel_result, without_client, close_result}
use Rattle.queue.proofs.Refusals.{Known, set-up-known, open_known, submit-known, piece-known, cancel-known, close-known, set-up-allowed, open_allowed, SubmitAllowed, submit-allowed, PieceAllowed, piece-allowed, close-allowed}
use Rattle.queue.proofs.Calls.{open_refused, submit-refused, piece-refused}
use Rattle.queue.proofs.Validity.{Sized, fresh_valid, open_sized, open_valid, staged-sized, staged-valid, close-sized, close-valid}
use Rattle.queue.proofs.Submitted.{added-sized, added-valid, submit_addable, staged_addable}

-- ---- the paper's numbers

pub number-answered : {A : Type 0} (n : ℕ) (a : A) → Known n → refusal_number_of (answer_unless_refused n a) ≡ n
unfolding answer_unless_refused
number-answered zero a k = refl
number-answered (suc n) a k = k (λ z. absurd (omega arith))

pub set-up-number : (setup : Setup) → refusal_number_of (set_up_result setup.ring setup.memory setup.common setup.reset).answer ≡ first_refusal (set_up_table setup)
unfolding set_up_result
set-up-number setup = number-answered (first_refusal (set_up_table setup)) Done (set-up-known setup)

pub open_number : (engine : EngineRecord) (w : Window) → refusal_number_of (open_result engine w).answer ≡ first_refusal (open_table engine w)
unfolding open_result
open_number engine w = number-answered (first_refusal (open_table engine w)) (Opened (lowest_closed engine.clients)) (open_known engine w)

pub submit-number : (engine : EngineRecord) (ring : List ℕ) (client : ℕ) (batch : List ℕ) → refusal_number_of (submit_result engine ring client batch).answer ≡ submit_number engine ring client batch
unfolding submit_result
submit-number engine ring client batch = number-answered (submit_number engine ring client batch) (Accepted engine.next_ticket) (submit-known engine (length ring) client (length batch))

pub begin-number : (engine : EngineRecord) (ring client total : ℕ) → refusal_number_of (begin_result engine ring client total).answer ≡ first_refusal (submit_table engine ring client total)
unfolding begin_result
begin-number engine ring client total = number-answered (first_refusal (submit_table engine ring client total)) Done (submit-known engine ring client total)

pub piece-number : (engine : EngineRecord) (ring : List ℕ) (client : ℕ) (piece : List ℕ) → refusal_number_of (piece_result engine ring client piece).answer ≡ piece_number engine ring client piece
unfolding piece_result
piece-number engine ring client piece = number-answered (piece_number engine ring client piece) (piece_answer engine (length piece)) (piece-known engine (length ring) client (length piece))

pub cancel-number : (engine : EngineRecord) (client : ℕ) → refusal_number_of (cancel_result engine client).answer ≡ first_refusal (cancel_table engine client)
unfolding cancel_result
cancel-number engine client = number-answered (first_refusal (cancel_table engine client)) Done (cancel-known engine client)

pub close-number : (engine : EngineRecord) (memory client : ℕ) → refusal_number_of (close_result engine memory client).answer ≡ first_refusal (close_table engine memory client)
unfolding close_result
close-number engine memory client = number-answered (first_refusal (close_table engine memory client)) Done (close-known engine memory client)

-- ---- a refusal changes nothing

pub open_refused_no_op : (engine : EngineRecord) (w : Window) → (first_refusal (open_table engine w) ≡ 0 → ⊥) →
    open_result engine w ≡ record { answer = Err (refusal_numbered (first_refusal (open_table engine w))); engine = engine }
open_refused_no_op engine w z =
    let n : ℕ = first_refusal (open_table engine w) in sym (open_refused engine w n refl (refusal_numbered n) (sym (open_known engine w z)))

pub submit-refused_no_op : (engine : EngineRecord) (ring : List ℕ) (client : ℕ) (batch : List ℕ) → (submit_number engine ring client batch ≡ 0 → ⊥) →
    (submit_result engine ring client batch ≡ record { answer = Err (refusal_numbered (submit_number engine ring client batch)); engine = engine }) × (submit_ring engine ring client batch ≡ ring)
submit-refused_no_op engine ring client batch z =
    let n : ℕ = submit_number engine ring client batch in
    let both = submit-refused engine ring client batch n refl (refusal_numbered n) (sym (submit-known engine (length ring) client (length batch) z)) in
    (sym both.0, sym both.1)

pub piece-refused_no_op : (engine : EngineRecord) (ring : List ℕ) (client : ℕ) (piece : List ℕ) → (piece_number engine ring client piece ≡ 0 → ⊥) →
    (piece_result engine ring client piece ≡ record { answer = Err (refusal_numbered (piece_number engine ring client piece)); engine = engine }) × (piece_ring engine ring client piece ≡ ring)
piece-refused_no_op engine ring client piece z =
    let n : ℕ = piece_number engine ring client piece in
    let both = piece-refused engine ring client piece n refl (refusal_numbered n) (sym (piece-known engine (length ring) client (length piece) z)) in
    (sym both.0, sym both.1)

-- ---- a valid record stays valid

-- of what was there and what comes of the call, one is left
pub unless_keeps : {A : Type 0} (P : A → Type 0) (n : ℕ) (before after : A) → P before → (n ≡ 0 → P after) → P (unless_refused n before after)
unfolding unless_refused
unless_keeps P zero before after p q = q refl
unless_keeps P (suc n) before after p q = p

-- the record of a set up that was accepted is valid
pub set-up_preserves : (setup : Setup) → first_refusal (set_up_table setup) ≡ 0 →
    valid (set_up_result setup.ring setup.memory setup.common setup.reset).engine ≡ true
unfolding set_up_result unless_refused
set-up_preserves setup z = rw z (fresh_valid setup (set-up-allowed setup z))

module _ (engine : EngineRecord) (s : Sized engine) (ok : valid engine ≡ true) where
  pub open_preserves : (w : Window) → (valid (open_result engine w).engine ≡ true) × Sized (open_result engine w).engine
  unfolding open_result
  open_preserves w =
      unless_keeps (λ e. (valid e ≡ true) × Sized e) (first_refusal (open_table engine w)) engine (with_client engine w) (ok, s)
      (λ z. (open_valid engine w s (open_allowed engine w z), open_sized engine w s))

  pub submit_preserves : (ring : List ℕ) (client : ℕ) (batch : List ℕ) → (valid (submit_result engine ring client batch).engine ≡ true) × Sized (submit_result engine ring client batch).engine
  unfolding submit_result
  submit_preserves ring client batch =
      unless_keeps (λ e. (valid e ≡ true) × Sized e) (submit_number engine ring client batch) engine (submitted engine client (length batch)) (ok, s)
      (λ z. (
        added-valid engine s (lowest_free engine.slots) client (length batch) (submit_addable engine s (length ring) client (length batch) (submit-allowed engine (length ring) client (length batch) z)),
        added-sized engine (lowest_free engine.slots) (new_batch engine client (length batch)) s,
      ))

  -- a submission begun is unfinished, and holds a slot that was free
  begun-rule : (given client total : ℕ) → SubmitAllowed engine given client total → staged_rule (with_staged engine (begun engine client total)) ≡ true
  unfolding with_staged
  begun-rule given client total a =
      let d = submit_addable engine s given client total a in
      unfinished_kept (with_staged engine (begun engine client total))
      (record { owner = a.owner; allowed = a.allowed; room = d.room; short = (length-good engine.setup.ring total a.allowed).some; slot = d.slot; held = d.unused })

  -- and so it is with another piece that is not the last
  more-rule : (given client size : ℕ) → PieceAllowed engine given client size → ¬ (engine.staged.received + size ≡ engine.staged.total) → staged_rule (with_staged engine (more engine.staged size)) ≡ true
  unfolding with_staged
  more-rule given client size a e =
      let u = a.own.unfinished in
      unfinished_kept (with_staged engine (more engine.staged size))
      (record { owner = u.owner; allowed = u.allowed; room = u.room; short = omega (arith, a.fits); slot = u.slot; held = u.held })

  none-rule : staged_rule (with_staged engine no_staged) ≡ true
  unfolding with_staged
  none-rule = idle-kept (with_staged engine no_staged) refl

  pub begin_preserves : (ring client total : ℕ) → (valid (begin_result engine ring client total).engine ≡ true) × Sized (begin_result engine ring client total).engine
  unfolding begin_result
  begin_preserves ring client total =
      unless_keeps (λ e. (valid e ≡ true) × Sized e) (first_refusal (submit_table engine ring client total)) engine (with_staged engine (begun engine client total)) (ok, s)
      (λ z. (staged-valid engine _ ok (begun-rule ring client total (submit-allowed engine ring client total z)), staged-sized engine _ s))

  pub after-piece : (given client size : ℕ) → PieceAllowed engine given client size → (valid (after_piece engine size) ≡ true) × Sized (after_piece engine size)
  after-piece given client size a = go (is_last engine.staged size) refl
    where
      go : (b : Bool) → is_last engine.staged size ≡ b →
          let after : EngineRecord = cond b (with_batch engine engine.staged.slot (new_batch engine engine.staged.client engine.staged.total)) (with_staged engine (more engine.staged size)) in
          (valid after ≡ true) × Sized after
      go true e = (added-valid engine s _ _ _ (staged_addable engine client a.own), added-sized engine _ _ s)
      go false e = (staged-valid engine _ ok (more-rule given client size a (eqb-false _ _ e)), staged-sized engine _ s)

  pub piece_preserves : (ring : List ℕ) (client : ℕ) (piece : List ℕ) → (valid (piece_result engine ring client piece).engine ≡ true) × Sized (piece_result engine ring client piece).engine
  unfolding piece_result
  piece_preserves ring client piece =
      unless_keeps (λ e. (valid e ≡ true) × Sized e) (piece_number engine ring client piece) engine (after_piece engine (length piece)) (ok, s)
      (λ z. after-piece (length ring) client (length piece) (piece-allowed engine (length ring) client (length piece) z))

  pub cancel_preserves : (client : ℕ) → (valid (cancel_result engine client).engine ≡ true) × Sized (cancel_result engine client).engine
  unfolding cancel_result
  cancel_preserves client =
      unless_keeps (λ e. (valid e ≡ true) × Sized e) (first_refusal (cancel_table engine client)) engine (with_staged engine no_staged) (ok, s)
      (λ z. (staged-valid engine no_staged ok none-rule, staged-sized engine no_staged s))

  pub close_preserves : (memory client : ℕ) → (valid (close_result engine memory client).engine ≡ true) × Sized (close_result engine memory client).engine
  unfolding close_result
  close_preserves memory client =
      unless_keeps (λ e. (valid e ≡ true) × Sized e) (first_refusal (close_table engine memory client)) engine (without_client engine client) (ok, s)
      (λ z. (close-valid engine client s memory (close-allowed engine memory client z), close-sized engine client s))
