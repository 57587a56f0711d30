-- Every way to cut a batch into pieces comes to what a whole submit comes to: record, ring and ticket.
use mathlib.Core.Path.{◌≡◌, refl, ap, ap₂, sym, ◌∙◌}
use mathlib.Core.List.{List, [], ◌∷◌, ◌++◌, map, flatten, append_assoc, append-nil}
use mathlib.Core.Bool.{true}
use Prim.Native.Nat.{ℕ, ◌+◌, ◌-◌, ◌≤◌, ◌<◌}
use native.Mathlib.Omega.{arith}
use lib.ListN.{length, length-append}
use borrow.Author.Tests.{eq-eqb, ne_eqb, le-ltb}
use Rattle.ring.specs.Segment.{wrap_offset, segment}
use Rattle.ring.specs.Copied.{copied_in}
use Rattle.ring.proofs.Wrapped.{wrapped_below}
use Rattle.ring.proofs.Copied.{length-copied}
use Rattle.engine_record.specs.declared.EngineRecord.{EngineRecord}
use Rattle.engine_record.specs.Queue.{ready_bytes, write_offset}
use Rattle.engine_record.specs.Rules.{valid, staged_rule}
use Rattle.engine_record.proofs.Pieces.{copied-twice, copied-same}
use Rattle.engine_record.proofs.Rules.{valid_facts, ready-within}
use Rattle.engine_record.proofs.Unfinished.{unfinished_kept}
use Rattle.queue.specs.Refusals.{first_refusal}
use Rattle.queue.specs.Calls.{with_batch, submitted, with_staged, begun, with_received, piece_answer, after_piece}
use Rattle.queue.proofs.Refusals.{SubmitAllowed, submit-allowed}
use Rattle.queue.proofs.Validity.{Sized, few-taken, staged-valid}
use Rattle.queue.proofs.Submitted.{submit_addable}
use Rattle.model.specs.Calls.{Setup, Call, submit, begin, piece, accepted}
use Rattle.claims.specs.Engine.{State, mk_state, CallResult, model_answer_of, perform_call, state_after, SetUpAccepted}
use Rattle.model.specs.Machine.{Cutting}
use Rattle.claims.specs.Demand3.{engine_machine, final_state}
use Rattle.claims.proofs.Cases.{number, done, either, by_number}
use Rattle.claims.proofs.Simulation.{at-end}

-- a call that is not refused
pub allowed : (c : Call) (s : State) → number c s ≡ 0 → perform_call c s ≡ done c s
unfolding either
allowed c s z = rw (by_number c s, z)

module _ (s : State) (sized : Sized s.engine) (client n : ℕ) (z : number (begin client n) s ≡ 0) where
  abbrev e : EngineRecord
  e = s.engine

  a : SubmitAllowed e (length s.ring) client n
  a = submit-allowed e (length s.ring) client n z

  -- so many bytes have come
  abbrev up_to : ℕ → EngineRecord
  up_to k = with_staged e (with_received (begun e client n) k)

  -- the client has begun a batch of n bytes and handed over y
  abbrev handed : List ℕ → State
  handed y = mk_state (up_to (length y)) (copied_in s.ring (write_offset e) y) s.memory

  rule : (k : ℕ) → k < n → staged_rule (up_to k) ≡ true
  unfolding with_staged
  rule k h =
      let d = submit_addable e sized (length s.ring) client n a in
      unfinished_kept (up_to k) (record { owner = a.owner; allowed = a.allowed; room = d.room; short = h; slot = d.slot; held = d.unused })

  up-to-valid : (k : ℕ) → k < n → valid (up_to k) ≡ true
  up-to-valid k h = staged-valid e (with_received (begun e client n) k) a.ok (rule k h)

  starts : write_offset e < length s.ring
  starts =
      let v = valid_facts e a.ok in
      let ready = ready-within e v (few-taken e sized) in
      let below = wrapped_below e.setup.ring (e.read_offset + ready_bytes e) (omega (arith, v.numbers.below)) in
      omega (arith, a.ring)

  within : n ≤ length s.ring
  within =
      let d = submit_addable e sized (length s.ring) client n a in
      omega (arith, d.room, a.ring)

  long : (y : List ℕ) → length y ≤ n → length (copied_in s.ring (write_offset e) y) ≡ length s.ring
  long y h = length-copied s.ring (write_offset e) y (record { starts = starts; fits = omega (arith, within) })

  -- a piece that fits is not refused
  piece-number : (y x : List ℕ) → length y < n → length y + length x ≤ n → number (piece client x) (handed y) ≡ 0
  unfolding first_refusal with_staged
  piece-number y x h k =
      rw (up-to-valid (length y) h, long y (omega arith), eq-eqb (length s.ring) e.setup.ring a.ring, a.owner, ne_eqb n 0 (omega arith), eq-eqb client client refl, le-ltb (n - length y) (length x) (omega arith))

  -- in the ring it goes on where the last one ended
  ring-on : (y x : List ℕ) → length y + length x ≤ n →
      copied_in (copied_in s.ring (write_offset e) y) (wrap_offset e.setup.ring (write_offset e + length y)) x ≡ copied_in s.ring (write_offset e) (y ++ x)
  ring-on y x h =
      ap (λ (m : ℕ). copied_in (copied_in s.ring (write_offset e) y) (wrap_offset m (write_offset e + length y)) x) (sym a.ring)
      ∙ copied-twice s.ring (write_offset e) y x starts (omega (arith, within))

  after_more : (y x : List ℕ) → length y + length x < n → after_piece (up_to (length y)) (length x) ≡ up_to (length (y ++ x))
  unfolding with_staged
  after_more y x h = rw (ne_eqb (length y + length x) n (omega arith), length-append y x)

  more-taken : (y x : List ℕ) → length y + length x < n → (perform_call (piece client x) (handed y)).after ≡ handed (y ++ x)
  unfolding with_staged
  more-taken y x h =
      ap (λ (r : CallResult). r.after) (allowed (piece client x) (handed y) (piece-number y x (omega arith) (omega arith)))
      ∙ ap₂ (λ (r : EngineRecord) (q : List ℕ). mk_state r q s.memory) (after_more y x h) (ring-on y x (omega arith))

  pieces-taken : (xs : List (List ℕ)) (y : List ℕ) → length y + length (flatten xs) < n → state_after (map (piece client) xs) (handed y) ≡ handed (y ++ flatten xs)
  unfolding state_after flatten
  pieces-taken [] y l = ap handed (sym (append-nil y))
  pieces-taken (x ∷ xs) y l =
      let long_rest = length-append x (flatten xs) in
      let longer = length-append y x in
      ap (state_after (map (piece client) xs)) (more-taken y x (omega arith))
      ∙ pieces-taken xs (y ++ x) (omega arith)
      ∙ ap handed (append_assoc y x (flatten xs))

  last_record : (y x : List ℕ) → length y + length x ≡ n → after_piece (up_to (length y)) (length x) ≡ submitted e client (length (y ++ x))
  unfolding with_staged with_batch
  last_record y x h = rw (eq-eqb (length y + length x) n h, length-append y x, h)

  last-answer : (y x : List ℕ) → length y + length x ≡ n → model_answer_of (piece_answer (up_to (length y)) (length x)) ≡ accepted e.next_ticket
  unfolding with_staged
  last-answer y x h = rw (eq-eqb (length y + length x) n h)

  last_taken : (y x : List ℕ) → 0 < length x → length y + length x ≡ n → perform_call (piece client x) (handed y) ≡ done (submit client (y ++ x)) s
  unfolding with_staged
  last_taken y x p h =
      allowed (piece client x) (handed y) (piece-number y x (omega arith) (omega arith))
      ∙ rw (last-answer y x h, last_record y x h, ring-on y x (omega arith))

  began : (perform_call (begin client n) s).after ≡ handed []
  unfolding segment
  began =
      ap (λ (r : CallResult). r.after) (allowed (begin client n) s z)
      ∙ ap (λ (q : List ℕ). mk_state (up_to 0) q s.memory) (sym (copied-same s.ring (write_offset e) 0 starts (omega arith)))

pub cutting : (setup : Setup) (ring : List ℕ) (A : SetUpAccepted setup) (calls : List Call) (memory : List ℕ) (client : ℕ) (pieces : List (List ℕ)) (last : List ℕ) →
    Cutting engine_machine client pieces last (final_state setup ring calls memory)
unfolding state_after
cutting setup ring A calls memory client pieces last =
    let s : State = final_state setup ring calls memory in
    let sized : Sized s.engine = (at-end setup ring A calls memory).sound.sized in
    let n : ℕ = length (flatten pieces ++ last) in
    let long_all : n ≡ length (flatten pieces) + length last = length-append (flatten pieces) last in
    record {
      checks = refl;
      whole = λ p z.
          ap (perform_call (piece client last)) (ap (state_after (map (piece client) pieces)) (began s sized client n z) ∙ pieces-taken s sized client n z pieces [] (omega arith))
          ∙ last_taken s sized client n z (flatten pieces) last p (sym long_all)
          ∙ sym (allowed (submit client (flatten pieces ++ last)) s z);
    }
