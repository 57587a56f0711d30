-- Each call by its refusal number: refused, and then nothing changes, or done.
use mathlib.Core.Path.{◌≡◌, refl}
use mathlib.Core.List.{List}
use mathlib.Core.Bool.{Bool, true, false, cond}
use Prim.Native.Nat.{ℕ, zero, suc}
use native.Mathlib.Omega.{arith}
use lib.ListN.{length}
use Rattle.ring.specs.Copied.{copied_in}
use Rattle.engine_record.specs.declared.Window.{Window as Place}
use Rattle.engine_record.specs.Slots.{ready_batches as readyOf, count_of}
use Rattle.engine_record.specs.Clients.{client_at, lowest_closed}
use Rattle.engine_record.specs.Queue.{write_offset}
use Rattle.engine_record.specs.declared.EngineRecord.{EngineRecord}
use Rattle.queue.specs.declared.Answer.{Answer as QueueAnswer}
use Rattle.engine_record.specs.Staged.{no_staged, missing_bytes}
use Rattle.queue.specs.declared.Answer.TheVariants.{Done, Opened, Accepted, Ready, Missing}
use Rattle.queue.specs.declared.Refusal.{Refusal}
use Rattle.queue.specs.Answers.{number_of, refusal_number_of, value_of, answer_unless_refused as replied}
use Rattle.queue.specs.Refusals.{first_refusal}
use Rattle.queue.specs.Calls.{unless_refused, with_client, open_result, submitted, submit_result, submit_ring, with_staged, begun, begin_result, more, is_last, piece_answer, after_piece, piece_offset, piece_result, piece_ring, cancel_result, without_client, close_result, pending_answer}
use Rattle.engine.specs.declared.Completion.{Completion}
use Rattle.engine.specs.Outcome.{run_refusal_of as refusalOf, values_of}
use Rattle.engine.specs.Run.{run_result, run_memory}
use Rattle.engine.specs.Close.{zeroed, close_memory}
use Rattle.queue.proofs.Refusals.{Known, not_zero, open_known, submit-known, piece-known, cancel-known, close-known, pending-known}
use Rattle.engine.proofs.Refusals.{run-known}
use Rattle.engine.proofs.Calls.{completion as completionOf}
use Rattle.model.specs.Windows.{Window}
use Rattle.model.specs.Calls.{Call, Answer, opens, submit, run, pending, begin, piece, cancel, close, opened, accepted, completed, ready, done as silent, refused}
use Rattle.claims.specs.BatchSemantics.{completion_status_of}
use Rattle.claims.specs.Engine.{State, mk_state, CallResult, answer_or_refusal, completion, model_answer_of, model_reply_of, perform_call}
use Rattle.model.specs.Machine.{RefusalNoOp}
use Rattle.claims.specs.Demand1.{refusal_table_of}
use Rattle.claims.specs.Demand2.{run_performed}

-- the window as the record holds it
abbrev pub given : Window → Place
given w = record { start = w.start; length = w.length }

-- what a call is refused with, 0 if it is done
abbrev pub number : Call → State → ℕ
number c s = first_refusal (refusal_table_of c s)

-- what comes of a call that is done
abbrev pub done : Call → State → CallResult
done (opens w) s = record { answer = opened (lowest_closed s.engine.clients); after = mk_state (with_client s.engine (given w)) s.ring s.memory }
done (submit client bytes) s = record {
  answer = accepted s.engine.next_ticket;
  after = mk_state (submitted s.engine client (length bytes)) (copied_in s.ring (write_offset s.engine) bytes) s.memory;
}
done run s = run_performed s
done (pending client) s = record { answer = ready (count_of client (readyOf s.engine.slots)); after = s }
done (begin client total) s = record { answer = silent; after = mk_state (with_staged s.engine (begun s.engine client total)) s.ring s.memory }
done (piece client bytes) s = record {
  answer = model_answer_of (piece_answer s.engine (length bytes));
  after = mk_state (after_piece s.engine (length bytes)) (copied_in s.ring (piece_offset s.engine) bytes) s.memory;
}
done (cancel client) s = record { answer = silent; after = mk_state (with_staged s.engine no_staged) s.ring s.memory }
done (close client) s = record { answer = silent; after = mk_state (without_client s.engine client) s.ring (zeroed (client_at s.engine client).window s.memory) }

-- the one or the other
unfoldable pub either : (number : ℕ) → State → CallResult → CallResult
either zero s done = done
either (suc n) s done = record { answer = refused (suc n); after = s }

-- each kind of call, with any number
module _ (e e' : EngineRecord) (r r' m m' : List ℕ) where
  case_open : (n client : ℕ) → Known n →
      record { answer = answer_or_refusal (refusal_number_of (replied n (Opened client))) (opened (value_of (replied n (Opened client)))); after = mk_state (unless_refused n e e') r m } ≡
      either n (mk_state e r m) (record { answer = opened client; after = mk_state e' r m })
  unfolding answer_or_refusal replied unless_refused either
  case_open zero client k = refl
  case_open (suc n) client k = rw (k (λ z. absurd (omega arith)))

  case_submit : (n ticket : ℕ) → Known n →
      record { answer = answer_or_refusal (refusal_number_of (replied n (Accepted ticket))) (accepted (value_of (replied n (Accepted ticket)))); after = mk_state (unless_refused n e e') (unless_refused n r r') m } ≡
      either n (mk_state e r m) (record { answer = accepted ticket; after = mk_state e' r' m })
  unfolding answer_or_refusal replied unless_refused either
  case_submit zero ticket k = refl
  case_submit (suc n) ticket k = rw (k (λ z. absurd (omega arith)))

  case_run : (n : ℕ) (c : Completion) → Known n →
      record { answer = answer_or_refusal (refusalOf (replied n c)) (completion (values_of (replied n c))); after = mk_state (unless_refused n e e') r (unless_refused n m m') } ≡
      either n (mk_state e r m) (record { answer = completed c.client c.ticket (completion_status_of c.verdict); after = mk_state e' r m' })
  unfolding answer_or_refusal replied unless_refused either
  case_run zero c k = refl
  case_run (suc n) c k = rw (k (λ z. absurd (omega arith)))

  case_pending : (n count : ℕ) → Known n →
      record { answer = answer_or_refusal (refusal_number_of (replied n (Ready count))) (ready (value_of (replied n (Ready count)))); after = mk_state e r m } ≡
      either n (mk_state e r m) (record { answer = ready count; after = mk_state e r m })
  unfolding answer_or_refusal replied either
  case_pending zero count k = refl
  case_pending (suc n) count k = rw (k (λ z. absurd (omega arith)))

  case_silent : (n : ℕ) → Known n →
      record { answer = answer_or_refusal (refusal_number_of (replied n Done)) silent; after = mk_state (unless_refused n e e') r m } ≡
      either n (mk_state e r m) (record { answer = silent; after = mk_state e' r m })
  unfolding answer_or_refusal replied unless_refused either
  case_silent zero k = refl
  case_silent (suc n) k = rw (k (λ z. absurd (omega arith)))

  case_close : (n : ℕ) → Known n →
      record { answer = answer_or_refusal (refusal_number_of (replied n Done)) silent; after = mk_state (unless_refused n e e') r (unless_refused n m m') } ≡
      either n (mk_state e r m) (record { answer = silent; after = mk_state e' r m' })
  unfolding answer_or_refusal replied unless_refused either
  case_close zero k = refl
  case_close (suc n) k = rw (k (λ z. absurd (omega arith)))

  case_piece : (n : ℕ) (a : QueueAnswer) → Known n →
      record { answer = answer_or_refusal (refusal_number_of (replied n a)) (model_reply_of (replied n a)); after = mk_state (unless_refused n e e') (unless_refused n r r') m } ≡
      either n (mk_state e r m) (record { answer = model_answer_of a; after = mk_state e' r' m })
  unfolding answer_or_refusal replied unless_refused either
  case_piece zero a k = refl
  case_piece (suc n) a k = rw (k (λ z. absurd (omega arith)))

pub known-call : (c : Call) (s : State) → Known (number c s)
known-call (opens w) s = open_known s.engine (given w)
known-call (submit client bytes) s = submit-known s.engine (length s.ring) client (length bytes)
known-call run s = run-known s.engine (length s.ring) (length s.memory)
known-call (pending client) s = pending-known s.engine client
known-call (begin client total) s = submit-known s.engine (length s.ring) client total
known-call (piece client bytes) s = piece-known s.engine (length s.ring) client (length bytes)
known-call (cancel client) s = cancel-known s.engine client
known-call (close client) s = close-known s.engine (length s.memory) client

-- what is answered of a call that is refused
pub refuses : (r : Refusal) (a : Answer) → answer_or_refusal (number_of r) a ≡ refused (number_of r)
unfolding answer_or_refusal
refuses r a = go (number_of r) (not_zero r (number_of r) refl)
  where
    go : (n : ℕ) → (n ≡ 0 → ⊥) → answer_or_refusal n a ≡ refused n
    go zero h = absurd (h refl)
    go (suc n) h = refl

pub by_number : (c : Call) (s : State) → perform_call c s ≡ either (number c s) s (done c s)
unfolding perform_call open_result submit_result submit_ring run_result run_memory begin_result piece_result piece_ring cancel_result close_result close_memory pending_answer
by_number (opens w) s =
    let d : State = (done (opens w) s).after in
    case_open s.engine d.engine s.ring d.ring s.memory d.memory (number (opens w) s) (lowest_closed s.engine.clients) (known-call (opens w) s)
by_number (submit client bytes) s =
    let d : State = (done (submit client bytes) s).after in
    case_submit s.engine d.engine s.ring d.ring s.memory d.memory (number (submit client bytes) s) s.engine.next_ticket (known-call (submit client bytes) s)
by_number run s =
    let d : State = (done run s).after in
    case_run s.engine d.engine s.ring d.ring s.memory d.memory (number run s) (completionOf s.engine s.ring) (known-call run s)
by_number (pending client) s =
    case_pending s.engine s.engine s.ring s.ring s.memory s.memory (number (pending client) s) (count_of client (readyOf s.engine.slots)) (known-call (pending client) s)
by_number (begin client total) s =
    let d : State = (done (begin client total) s).after in
    case_silent s.engine d.engine s.ring d.ring s.memory d.memory (number (begin client total) s) (known-call (begin client total) s)
by_number (piece client bytes) s =
    let d : State = (done (piece client bytes) s).after in
    case_piece s.engine d.engine s.ring d.ring s.memory d.memory (number (piece client bytes) s) (piece_answer s.engine (length bytes)) (known-call (piece client bytes) s)
by_number (cancel client) s =
    let d : State = (done (cancel client) s).after in
    case_silent s.engine d.engine s.ring d.ring s.memory d.memory (number (cancel client) s) (known-call (cancel client) s)
by_number (close client) s =
    let d : State = (done (close client) s).after in
    case_close s.engine d.engine s.ring d.ring s.memory d.memory (number (close client) s) (known-call (close client) s)

-- ---- a refusal changes nothing, whatever record, ring and memory are

quiet : (n : ℕ) (s : State) (d : CallResult) → ((k : ℕ) → d.answer ≡ refused k → ⊥) → (k : ℕ) → (either n s d).answer ≡ refused k → (either n s d).after ≡ s
unfolding either
quiet zero s d h k e = absurd (h k e)
quiet (suc n) s d h k e = refl

pub answers : (c : Call) (s : State) (k : ℕ) → (done c s).answer ≡ refused k → ⊥
answers (opens w) s k e = let z : ◌≡◌ {A = ℕ} 0 1 = cc in omega arith
answers (submit client bytes) s k e = let z : ◌≡◌ {A = ℕ} 0 1 = cc in omega arith
answers run s k e = let z : ◌≡◌ {A = ℕ} 0 1 = cc in omega arith
answers (pending client) s k e = let z : ◌≡◌ {A = ℕ} 0 1 = cc in omega arith
answers (begin client total) s k e = let z : ◌≡◌ {A = ℕ} 0 1 = cc in omega arith
answers (piece client bytes) s k e = go (is_last s.engine.staged (length bytes)) e
  where
    go : (b : Bool) → model_answer_of (cond b (Accepted s.engine.next_ticket) (Missing (missing_bytes (more s.engine.staged (length bytes))))) ≡ refused k → ⊥
    go true e = let z : ◌≡◌ {A = ℕ} 0 1 = cc in omega arith
    go false e = let z : ◌≡◌ {A = ℕ} 0 1 = cc in omega arith
answers (cancel client) s k e = let z : ◌≡◌ {A = ℕ} 0 1 = cc in omega arith
answers (close client) s k e = let z : ◌≡◌ {A = ℕ} 0 1 = cc in omega arith

pub refused_no_change : (c : Call) (s : State) → RefusalNoOp (perform_call c s).answer s (perform_call c s).after
refused_no_change c s = rw (by_number c s) (quiet (number c s) s (done c s) (answers c s))
