-- Every call of a server's loop is the call of crate claims on the record that the bytes stand for.
use mathlib.Core.Path.{◌≡◌, refl, sym, ap, subst, ◌∙◌}
use mathlib.Core.Bool.{Bool, true, false, cond}
use mathlib.Core.List.{List, [], ◌∷◌}
use Prim.Native.Nat.{ℕ, zero, suc, ◌<◌, ◌^◌}
use native.Mathlib.Omega.{arith}
use lib.ListN.{length, get_or}
use lib.Dec.{eqb}
use Rattle.engine_record.specs.declared.Setup.{Setup as Numbers}
use Rattle.engine_record.specs.declared.Window.{Window as Place}
use Rattle.engine_record.specs.declared.EngineRecord.{EngineRecord}
use Rattle.engine_record.specs.Staged.{no_staged, missing_bytes}
use Rattle.engine_record.specs.Rules.{valid}
use Rattle.queue.specs.declared.Answer.TheVariants.{Accepted, Missing}
use Rattle.queue.specs.declared.Refusal.{Refusal}
use Rattle.queue.specs.Answers.{number_of, refusal_numbered, refusal_number_of, value_of, answer_unless_refused}
use Rattle.queue.specs.Refusals.{first_refusal, open_table, submit_table, cancel_table, close_table, set_up_table}
use Rattle.queue.specs.Calls.{unless_refused, initial_record, no_setup, with_client, submitted, set_up_result, open_result, submit_result, submit_number, submit_ring, with_staged, begun, begin_result, more, is_last, piece_number, after_piece, piece_result, piece_ring, cancel_result, without_client, close_result}
use Rattle.queue.proofs.Preservation.{unless_keeps, set-up-number, open_number, submit-number, begin-number, piece-number, cancel-number, close-number, set-up_preserves, open_preserves, submit_preserves, begin_preserves, piece_preserves, cancel_preserves, close_preserves}
use Rattle.engine.specs.Close.{close_memory}
use Rattle.engine.specs.Run.{run_number, without_oldest, run_result, run_memory}
use Rattle.engine.proofs.Preservation.{run-number, run_preserves}
use Rattle.engine.specs.Answers.{last_of}
use Rattle.model.specs.Windows.{Window}
use Rattle.model.specs.Calls.{Setup, Call, opens, submit, run, pending, begin, piece, cancel, close, Answer, refused}
use Rattle.claims.specs.Engine.{State, model_reply_of, perform_call, answers_of, state_after, answer_or_refusal, initial_state, SetUpAccepted}
use Rattle.claims.proofs.Cases.{refuses}
use Rattle.claims.proofs.Simulation.{like_model}
use Rattle.claims.proofs.Ring.{ring-after}
use Rattle.record_bytes.specs.Read.{record_of}
use Rattle.record_bytes.specs.Written.{bytes_of}
use Rattle.record_bytes.specs.RoundTrip.{Typed}
use Rattle.record_bytes.proofs.RoundTrip.{back}
use Rattle.record_bytes.proofs.Fitting.{fits}
use Rattle.calls.specs.Calls.{set_up_number, SetsUp, ValueWritten, Opens, Submits, NumberWritten, Begins, ProgressWritten, HandsOver, Cancels, Closes, Reports, Runs}
use Rattle.calls.proofs.Results.{unless_zero}
use Rattle.calls.specs.Served.{CallBuffers, ServesOpen, ServesSubmit, ServesRun, ServesPending, ServesBegin, of_piece, ServesPiece, ServesCancel, ServesClose, Serves, ServesAll, nil, cons, CallFits32Bits, CallsFit32Bits, ServedHolds}
use Rattle.calls.proofs.ServerLoop.Typed.{sized, fresh_typed, open_typed, submit-typed, begin-typed, piece-typed, cancel-typed, close-typed, run_typed}

-- the bytes are those of a record that keeps its rules
record Holds (bytes : List ℕ) (e : EngineRecord) : Type 0 where
  are : bytes ≡ bytes_of e
  ok : valid e ≡ true
  right : Typed e

stands : {bytes : List ℕ} {e : EngineRecord} → Holds bytes e → record_of bytes ≡ e
stands {e = e} h = ap record_of h.are ∙ back e h.right (fits e h.right h.ok)

-- a refused call leaves the bytes and the record
keeps : (n : ℕ) (bytes : List ℕ) (e x : EngineRecord) → bytes ≡ bytes_of e → unless_refused n bytes (bytes_of (unless_refused n e x)) ≡ bytes_of (unless_refused n e x)
unfolding unless_refused
keeps zero bytes e x h = refl
keeps (suc n) bytes e x h = h

-- what is lent holds the engine's state
record Agrees (s : CallBuffers) (x : State) : Type 0 where
  holds : Holds s.bytes x.engine
  rings : s.ring ≡ x.ring
  memories : s.memory ≡ x.memory

record Steps (c : Call) (x : State) (a : Answer) (t : CallBuffers) : Type 0 where
  answer : a ≡ (perform_call c x).answer
  after : Agrees t (perform_call c x).after

-- a piece's two numbers say what it answers
of_piece-answer : (n : ℕ) (b : Bool) (ticket left : ℕ) →
    answer_or_refusal (refusal_number_of (answer_unless_refused n (cond b (Accepted ticket) (Missing left))))
    (of_piece (last_of (answer_unless_refused n (cond b (Accepted ticket) (Missing left)))) (value_of (answer_unless_refused n (cond b (Accepted ticket) (Missing left)))))
    ≡ answer_or_refusal (refusal_number_of (answer_unless_refused n (cond b (Accepted ticket) (Missing left)))) (model_reply_of (answer_unless_refused n (cond b (Accepted ticket) (Missing left))))
unfolding answer_unless_refused answer_or_refusal
of_piece-answer zero true ticket left = refl
of_piece-answer zero false ticket left = refl
of_piece-answer (suc n) b ticket left = let r : Refusal = refusal_numbered (suc n) in refuses r (of_piece 0 0) ∙ sym (refuses r (refused (number_of r)))

-- ---- each call

module _ (s : CallBuffers) (x : State) (g : Agrees s x) where
  abbrev e : EngineRecord
  e = x.engine

  z : record_of s.bytes ≡ e
  z = stands g.holds

  open_step_lem : (w : Window) (a : Answer) (t : CallBuffers) → CallFits32Bits (opens w) → ServesOpen w s a t → Steps (opens w) x a t
  unfolding perform_call Opens open_result
  open_step_lem w a t p q =
      let place : Place = record { start = w.start; length = w.length } in
      let k : ValueWritten s.bytes (bytes_of (open_result e place).engine) (open_result e place).answer q.number q.value t.bytes =
      subst (λ (y : EngineRecord). ValueWritten s.bytes (bytes_of (open_result y place).engine) (open_result y place).answer q.number q.value t.bytes) z q.contract
      in
      record {
        answer = q.answer ∙ rw (k.number_is, k.value_is);
        after = record {
          holds = record {
            are =
                k.record_is
                ∙ ap (λ (n : ℕ). unless_refused n s.bytes (bytes_of (open_result e place).engine)) (open_number e place)
                ∙ keeps (first_refusal (open_table e place)) s.bytes e (with_client e place) g.holds.are;
            ok = (open_preserves e (sized g.holds.right) g.holds.ok place).0;
            right = open_typed e g.holds.right place p;
          };
          rings = q.ring ∙ g.rings;
          memories = q.memory ∙ g.memories;
        };
      }

  submit-step : (client : ℕ) (batch : List ℕ) (a : Answer) (t : CallBuffers) → client < 2 ^ 32 → ServesSubmit client batch s a t → Steps (submit client batch) x a t
  unfolding perform_call submit_result
  submit-step client batch a t p q =
      let b : Submits s.bytes x.ring client batch q.number q.value t.bytes t.ring =
      subst (λ (l : List ℕ). Submits s.bytes l client batch q.number q.value t.bytes t.ring) g.rings q.contract
      in
      let k : ValueWritten s.bytes (bytes_of (submit_result e x.ring client batch).engine) (submit_result e x.ring client batch).answer q.number q.value t.bytes =
      subst (λ (y : EngineRecord). ValueWritten s.bytes (bytes_of (submit_result y x.ring client batch).engine) (submit_result y x.ring client batch).answer q.number q.value t.bytes) z b.answered
      in
      record {
        answer = q.answer ∙ rw (k.number_is, k.value_is);
        after = record {
          holds = record {
            are =
                k.record_is
                ∙ ap (λ (n : ℕ). unless_refused n s.bytes (bytes_of (submit_result e x.ring client batch).engine)) (submit-number e x.ring client batch)
                ∙ keeps (submit_number e x.ring client batch) s.bytes e (submitted e client (length batch)) g.holds.are;
            ok = (submit_preserves e (sized g.holds.right) g.holds.ok x.ring client batch).0;
            right = submit-typed e g.holds.right x.ring client batch p;
          };
          rings = b.ring_is ∙ ap (λ (y : EngineRecord). submit_ring y x.ring client batch) z;
          memories = q.memory ∙ g.memories;
        };
      }

  run_step_lem : (a : Answer) (t : CallBuffers) → ServesRun s a t → Steps run x a t
  unfolding perform_call run_result
  run_step_lem a t q =
      let five : List ℕ = q.client ∷ q.ticket ∷ q.status ∷ q.fault ∷ q.place ∷ [] in
      let b : Runs s.bytes x.ring x.memory q.number five t.bytes t.memory =
      subst (λ (m : List ℕ). Runs s.bytes x.ring m q.number five t.bytes t.memory) g.memories
      (subst (λ (l : List ℕ). Runs s.bytes l s.memory q.number five t.bytes t.memory) g.rings q.contract)
      in
      let k : Reports s.bytes (bytes_of (run_result e x.ring x.memory).engine) (run_result e x.ring x.memory).outcome q.number five t.bytes =
      subst (λ (y : EngineRecord). Reports s.bytes (bytes_of (run_result y x.ring x.memory).engine) (run_result y x.ring x.memory).outcome q.number five t.bytes) z b.reports
      in
      let e0 = ap (λ (l : List ℕ). get_or l 0 0) k.five_are in
      let e1 = ap (λ (l : List ℕ). get_or l 1 0) k.five_are in
      let e2 = ap (λ (l : List ℕ). get_or l 2 0) k.five_are in
      let e3 = ap (λ (l : List ℕ). get_or l 3 0) k.five_are in
      let e4 = ap (λ (l : List ℕ). get_or l 4 0) k.five_are in
      record {
        answer = q.answer ∙ rw (k.number_is, e0, e1, e2, e3, e4);
        after = record {
          holds = record {
            are =
                k.record_is
                ∙ ap (λ (n : ℕ). unless_refused n s.bytes (bytes_of (run_result e x.ring x.memory).engine)) (run-number e x.ring x.memory)
                ∙ keeps (run_number e x.ring x.memory) s.bytes e (without_oldest e) g.holds.are;
            ok = (run_preserves e (sized g.holds.right) g.holds.ok x.ring x.memory).0;
            right = run_typed e g.holds.right x.ring x.memory;
          };
          rings = q.ring ∙ g.rings;
          memories = b.memory_is ∙ ap (λ (y : EngineRecord). run_memory y x.ring x.memory) z;
        };
      }

  begin-step : (client total : ℕ) (a : Answer) (t : CallBuffers) → client < 2 ^ 32 → ServesBegin client total s a t → Steps (begin client total) x a t
  unfolding perform_call Begins begin_result
  begin-step client total a t p q =
      let n : ℕ = length x.ring in
      let b : Begins s.bytes x.ring client total q.number t.bytes =
      subst (λ (l : List ℕ). Begins s.bytes l client total q.number t.bytes) g.rings q.contract
      in
      let k : NumberWritten s.bytes (bytes_of (begin_result e n client total).engine) (begin_result e n client total).answer q.number t.bytes =
      subst (λ (y : EngineRecord). NumberWritten s.bytes (bytes_of (begin_result y n client total).engine) (begin_result y n client total).answer q.number t.bytes) z b
      in
      record {
        answer = q.answer ∙ rw k.number_is;
        after = record {
          holds = record {
            are =
                k.record_is
                ∙ ap (λ (m : ℕ). unless_refused m s.bytes (bytes_of (begin_result e n client total).engine)) (begin-number e n client total)
                ∙ keeps (first_refusal (submit_table e n client total)) s.bytes e (with_staged e (begun e client total)) g.holds.are;
            ok = (begin_preserves e (sized g.holds.right) g.holds.ok n client total).0;
            right = begin-typed e g.holds.right n client total p;
          };
          rings = q.ring ∙ g.rings;
          memories = q.memory ∙ g.memories;
        };
      }

  piece-step : (client : ℕ) (bytes : List ℕ) (a : Answer) (t : CallBuffers) → ServesPiece client bytes s a t → Steps (piece client bytes) x a t
  unfolding perform_call piece_result
  piece-step client bytes a t q =
      let two : List ℕ = q.last ∷ q.value ∷ [] in
      let b : HandsOver s.bytes x.ring client bytes q.number two t.bytes t.ring =
      subst (λ (l : List ℕ). HandsOver s.bytes l client bytes q.number two t.bytes t.ring) g.rings q.contract
      in
      let k : ProgressWritten s.bytes (bytes_of (piece_result e x.ring client bytes).engine) (piece_result e x.ring client bytes).answer q.number two t.bytes =
      subst (λ (y : EngineRecord). ProgressWritten s.bytes (bytes_of (piece_result y x.ring client bytes).engine) (piece_result y x.ring client bytes).answer q.number two t.bytes) z b.answered
      in
      let e0 = ap (λ (l : List ℕ). get_or l 0 0) k.two_are in
      let e1 = ap (λ (l : List ℕ). get_or l 1 0) k.two_are in
      record {
        answer =
            q.answer ∙ rw (k.number_is, e0, e1)
            (of_piece-answer (piece_number e x.ring client bytes) (is_last e.staged (length bytes)) e.next_ticket (missing_bytes (more e.staged (length bytes))));
        after = record {
          holds = record {
            are =
                k.record_is
                ∙ ap (λ (m : ℕ). unless_refused m s.bytes (bytes_of (piece_result e x.ring client bytes).engine)) (piece-number e x.ring client bytes)
                ∙ keeps (piece_number e x.ring client bytes) s.bytes e (after_piece e (length bytes)) g.holds.are;
            ok = (piece_preserves e (sized g.holds.right) g.holds.ok x.ring client bytes).0;
            right = piece-typed e g.holds.right x.ring client bytes;
          };
          rings = b.ring_is ∙ ap (λ (y : EngineRecord). piece_ring y x.ring client bytes) z;
          memories = q.memory ∙ g.memories;
        };
      }

  cancel-step : (client : ℕ) (a : Answer) (t : CallBuffers) → ServesCancel client s a t → Steps (cancel client) x a t
  unfolding perform_call Cancels cancel_result
  cancel-step client a t q =
      let k : NumberWritten s.bytes (bytes_of (cancel_result e client).engine) (cancel_result e client).answer q.number t.bytes =
      subst (λ (y : EngineRecord). NumberWritten s.bytes (bytes_of (cancel_result y client).engine) (cancel_result y client).answer q.number t.bytes) z q.contract
      in
      record {
        answer = q.answer ∙ rw k.number_is;
        after = record {
          holds = record {
            are =
                k.record_is
                ∙ ap (λ (m : ℕ). unless_refused m s.bytes (bytes_of (cancel_result e client).engine)) (cancel-number e client)
                ∙ keeps (first_refusal (cancel_table e client)) s.bytes e (with_staged e no_staged) g.holds.are;
            ok = (cancel_preserves e (sized g.holds.right) g.holds.ok client).0;
            right = cancel-typed e g.holds.right client;
          };
          rings = q.ring ∙ g.rings;
          memories = q.memory ∙ g.memories;
        };
      }

  close-step : (client : ℕ) (a : Answer) (t : CallBuffers) → ServesClose client s a t → Steps (close client) x a t
  unfolding perform_call close_result
  close-step client a t q =
      let n : ℕ = length x.memory in
      let b : Closes s.bytes x.memory client q.number t.bytes t.memory =
      subst (λ (m : List ℕ). Closes s.bytes m client q.number t.bytes t.memory) g.memories q.contract
      in
      let k : NumberWritten s.bytes (bytes_of (close_result e n client).engine) (close_result e n client).answer q.number t.bytes =
      subst (λ (y : EngineRecord). NumberWritten s.bytes (bytes_of (close_result y n client).engine) (close_result y n client).answer q.number t.bytes) z b.answered
      in
      record {
        answer = q.answer ∙ rw k.number_is;
        after = record {
          holds = record {
            are =
                k.record_is
                ∙ ap (λ (m : ℕ). unless_refused m s.bytes (bytes_of (close_result e n client).engine)) (close-number e n client)
                ∙ keeps (first_refusal (close_table e n client)) s.bytes e (without_client e client) g.holds.are;
            ok = (close_preserves e (sized g.holds.right) g.holds.ok n client).0;
            right = close-typed e g.holds.right n client;
          };
          rings = q.ring ∙ g.rings;
          memories = b.memory_is ∙ ap (λ (y : EngineRecord). close_memory y x.memory client) z;
        };
      }

  pending-step : (client : ℕ) (a : Answer) (t : CallBuffers) → ServesPending client s a t → Steps (pending client) x a t
  unfolding perform_call
  pending-step client a t q = record {
    answer = q.answer ∙ rw (q.contract.number_is, q.contract.value_is, z);
    after = subst (λ (l : CallBuffers). Agrees l x) (sym q.same) g;
  }

  step : (c : Call) (a : Answer) (t : CallBuffers) → CallFits32Bits c → Serves c s a t → Steps c x a t
  step (opens w) a t p q = open_step_lem w a t p q
  step (submit client batch) a t p q = submit-step client batch a t p q
  step run a t p q = run_step_lem a t q
  step (pending client) a t p q = pending-step client a t q
  step (begin client total) a t p q = begin-step client total a t p q
  step (piece client bytes) a t p q = piece-step client bytes a t q
  step (cancel client) a t p q = cancel-step client a t q
  step (close client) a t p q = close-step client a t q

-- ---- a list of calls

record Ends (cs : List Call) (x : State) (said : List Answer) (last : CallBuffers) : Type 0 where
  all : said ≡ answers_of cs x
  end : Agrees last (state_after cs x)

list : (cs : List Call) (s : CallBuffers) (x : State) (said : List Answer) (last : CallBuffers) → CallsFit32Bits cs → Agrees s x → ServesAll cs s said last → Ends cs x said last
unfolding answers_of state_after
list [] s x said last p g nil = record { all = refl; end = g }
list (c ∷ cs) s x said last p g (cons {t = t} {a = a} {said = rest} q qs) =
    let one = step s x g c a t p.0 q in
    let more = list cs t (perform_call c x).after rest last p.1 one.after qs in
    record { all = rw (one.answer, more.all); end = more.end }

-- ---- from an accepted set up

-- a cond with a number that is not 0 as its other case
both_zero : (t : Bool) (n : ℕ) → 0 ≡ cond t n 11 → n ≡ 0
both_zero true n e = sym e
both_zero false n e = absurd (omega arith)

module _ (setup : Setup) (before bytes ring memory : List ℕ) (u : SetsUp before setup.ring setup.memory setup.common setup.reset 0 bytes) where
  abbrev made : EngineRecord
  made = (set_up_result setup.ring setup.memory setup.common setup.reset).engine

  abbrev numbers : Numbers
  numbers = record { ring = setup.ring; memory = setup.memory; common = setup.common; reset = setup.reset }

  taken : SetUpAccepted setup
  taken = both_zero (eqb (length before) 272) (refusal_number_of (set_up_result setup.ring setup.memory setup.common setup.reset).answer) u.number_is

  typed-made : Typed made
  unfolding set_up_result
  typed-made =
      unless_keeps Typed (first_refusal (set_up_table numbers)) (initial_record no_setup) (initial_record numbers)
      (fresh_typed no_setup) (λ q. fresh_typed numbers)

  begins : Agrees (record { bytes = bytes; ring = ring; memory = memory }) (initial_state setup ring memory)
  begins = record {
    holds = record {
      are = u.record_is ∙ unless_zero before (bytes_of made) (set_up_number before setup.ring setup.memory setup.common setup.reset) (sym u.number_is);
      ok = set-up_preserves numbers (sym (set-up-number numbers) ∙ taken);
      right = typed-made;
    };
    rings = refl;
    memories = refl;
  }

pub promise : ServedHolds
promise setup before bytes ring memory calls said last u p q =
    let e = list calls (record { bytes = bytes; ring = ring; memory = memory }) (initial_state setup ring memory) said last p (begins setup before bytes ring memory u) q in
    let set_up = taken setup before bytes ring memory u in
    let m = like_model setup ring set_up calls memory in
    record {
      every_answer = e.all ∙ m.every_answer;
      every_byte = e.end.memories ∙ m.every_byte;
      ring_end = e.end.rings ∙ ring-after setup ring memory set_up calls;
    }
