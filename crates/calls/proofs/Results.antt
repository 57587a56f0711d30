-- A call that answers one number.
use mathlib.Core.Path.{◌≡◌, refl, sym, ap, subst, ◌∙◌}
use mathlib.Core.Bool.{true}
use mathlib.Core.List.{List}
use Prim.Native.Nat.{ℕ, zero, suc}
use lib.ListN.{length, take, drop, get_or}
use borrow.Author.Tests.{eq-eqb, ne_eqb}
use Rattle.reset.specs.declared.ResetRule.{ResetRule}
use Rattle.engine_record.specs.declared.Window.{Window}
use Rattle.engine_record.specs.declared.EngineRecord.{EngineRecord}
use Rattle.engine_record.specs.Rules.{valid}
use Rattle.std.proofs.Common.{Result}
use Rattle.queue.specs.declared.Refusal.{Refusal}
use Rattle.queue.specs.declared.Answer.{Answer}
use Rattle.queue.specs.declared.Reply.{Reply}
use Rattle.queue.specs.Answers.{refusal_number_of, value_of}
use Rattle.queue.specs.Calls.{unless_refused, set_up_result, open_result, submit_result, submit_ring, begin_result, piece_result, piece_ring, cancel_result, close_result, pending_answer}
use Rattle.queue.proofs.Refusals.{open_allowed, submit-allowed, piece-allowed, cancel-allowed, close-allowed}
use Rattle.queue.proofs.Preservation.{open_number, submit-number, begin-number, piece-number, cancel-number, close-number}
use Rattle.engine.specs.Close.{close_memory}
use Rattle.engine.specs.Answers.{short_answer, piece_words}
use Rattle.record_bytes.specs.Read.{record_of}
use Rattle.record_bytes.specs.Written.{bytes_of, written}
use Rattle.record_bytes.proofs.Cases.{valid_record, record_size, written-whole}
use Rattle.calls.specs.Calls.{SetsUp, ValueWritten, Opens, Submits, NumberWritten, Begins, ProgressWritten, HandsOver, Cancels, Closes, Pends}

-- ---- what the words of an answer mean, refused or not

module _ (before after : List ℕ) where
  pub unless_not : (n : ℕ) → (n ≡ 0 → ⊥) → unless_refused n before after ≡ before
  unfolding unless_refused
  unless_not zero h = absurd (h refl)
  unless_not (suc n) h = refl

  pub unless_zero : (n : ℕ) → n ≡ 0 → unless_refused n before after ≡ after
  unfolding unless_refused
  unless_zero n e = rw e

module _ (bytes after words : List ℕ) (a : Result Answer Refusal) (number : ℕ) (bytesNow : List ℕ) (first : number ≡ get_or words 0 0) (kept : bytesNow ≡ unless_refused (get_or words 0 0) bytes after) where
  -- a value, of one number
  pub value-written : (numbers : List ℕ) → words ≡ short_answer (refusal_number_of a) (value_of a) → numbers ≡ take 1 (drop 1 words) → ValueWritten bytes after a number (get_or numbers 0 0) bytesNow
  value-written numbers w e = record { number_is = first ∙ rw w; value_is = rw (e, w); record_is = kept ∙ rw w }

  -- and of none
  pub value-dropped : words ≡ short_answer (refusal_number_of a) (value_of a) → ValueWritten bytes after a number (value_of a) bytesNow
  value-dropped w = record { number_is = first ∙ rw w; value_is = refl; record_is = kept ∙ rw w }

  -- a piece's two
  pub two-written : (numbers : List ℕ) → words ≡ piece_words a → numbers ≡ take 2 (drop 1 words) → ProgressWritten bytes after a number numbers bytesNow
  two-written numbers w e = record { number_is = first ∙ rw w; two_are = e ∙ rw w; record_is = kept ∙ rw w }

-- ---- the record is written whole

-- what is not refused was done on a buffer that a record fits in
pub whole : (bytes : List ℕ) (engine : EngineRecord) (n : ℕ) → (n ≡ 0 → length bytes ≡ 272) → unless_refused n bytes (written engine bytes) ≡ unless_refused n bytes (bytes_of engine)
unfolding unless_refused
whole bytes engine zero h = written-whole engine bytes (h refl)
whole bytes engine (suc n) h = refl

value-written-whole : (bytes : List ℕ) (reply : Reply) (number value : ℕ) (bytesNow : List ℕ) → (refusal_number_of reply.answer ≡ 0 → length bytes ≡ 272) →
    ValueWritten bytes (written reply.engine bytes) reply.answer number value bytesNow → ValueWritten bytes (bytes_of reply.engine) reply.answer number value bytesNow
value-written-whole bytes reply number value bytesNow h t = record {
  number_is = t.number_is;
  value_is = t.value_is;
  record_is = t.record_is ∙ whole bytes reply.engine (refusal_number_of reply.answer) h;
}

-- and of a call whose value is left out
done-whole : (bytes : List ℕ) (reply : Reply) (number value : ℕ) (bytesNow : List ℕ) → (refusal_number_of reply.answer ≡ 0 → length bytes ≡ 272) →
    ValueWritten bytes (written reply.engine bytes) reply.answer number value bytesNow → NumberWritten bytes (bytes_of reply.engine) reply.answer number bytesNow
done-whole bytes reply number value bytesNow h t =
    let s = value-written-whole bytes reply number value bytesNow h t in
    record { number_is = s.number_is; record_is = s.record_is }

pub fits : (bytes : List ℕ) → valid (record_of bytes) ≡ true → length bytes ≡ 272
fits bytes v = record_size bytes (valid_record bytes v)

-- ---- the calls

module _ (bytes : List ℕ) (engine : EngineRecord) (is : engine ≡ record_of bytes) where
  pub open_answered : (w : Window) (reply : Reply) (number value : ℕ) (bytesNow : List ℕ) → reply ≡ open_result engine w →
      ValueWritten bytes (written reply.engine bytes) reply.answer number value bytesNow → Opens bytes w number value bytesNow
  unfolding Opens
  open_answered w reply number value bytesNow e t =
      let both : reply ≡ open_result (record_of bytes) w = e ∙ ap (λ (x : EngineRecord). open_result x w) is in
      value-written-whole bytes (open_result (record_of bytes) w) number value bytesNow
      (λ z. fits bytes (open_allowed (record_of bytes) w (sym (open_number (record_of bytes) w) ∙ z)).ok)
      (subst (λ (x : Reply). ValueWritten bytes (written x.engine bytes) x.answer number value bytesNow) both t)

  pub submit-answered : (ring : List ℕ) (client : ℕ) (batch : List ℕ) (reply : Reply) (number value : ℕ) (bytesNow ringNow : List ℕ) → reply ≡ submit_result engine ring client batch →
      ringNow ≡ submit_ring engine ring client batch → ValueWritten bytes (written reply.engine bytes) reply.answer number value bytesNow →
      Submits bytes ring client batch number value bytesNow ringNow
  submit-answered ring client batch reply number value bytesNow ringNow e q t =
      let both : reply ≡ submit_result (record_of bytes) ring client batch = e ∙ ap (λ (x : EngineRecord). submit_result x ring client batch) is in
      record {
        answered =
            value-written-whole bytes (submit_result (record_of bytes) ring client batch) number value bytesNow
            (λ z. fits bytes (submit-allowed (record_of bytes) (length ring) client (length batch) (sym (submit-number (record_of bytes) ring client batch) ∙ z)).ok)
            (subst (λ (x : Reply). ValueWritten bytes (written x.engine bytes) x.answer number value bytesNow) both t);
        ring_is = q ∙ ap (λ (x : EngineRecord). submit_ring x ring client batch) is;
      }

  pub begin-answered : (ring : List ℕ) (client total : ℕ) (reply : Reply) (number value : ℕ) (bytesNow : List ℕ) → reply ≡ begin_result engine (length ring) client total →
      ValueWritten bytes (written reply.engine bytes) reply.answer number value bytesNow → Begins bytes ring client total number bytesNow
  unfolding Begins
  begin-answered ring client total reply number value bytesNow e t =
      let both : reply ≡ begin_result (record_of bytes) (length ring) client total = e ∙ ap (λ (x : EngineRecord). begin_result x (length ring) client total) is in
      done-whole bytes (begin_result (record_of bytes) (length ring) client total) number value bytesNow
      (λ z. fits bytes (submit-allowed (record_of bytes) (length ring) client total (sym (begin-number (record_of bytes) (length ring) client total) ∙ z)).ok)
      (subst (λ (x : Reply). ValueWritten bytes (written x.engine bytes) x.answer number value bytesNow) both t)

  pub piece-answered : (ring : List ℕ) (client : ℕ) (piece : List ℕ) (reply : Reply) (number : ℕ) (two bytesNow ringNow : List ℕ) → reply ≡ piece_result engine ring client piece →
      ringNow ≡ piece_ring engine ring client piece → ProgressWritten bytes (written reply.engine bytes) reply.answer number two bytesNow →
      HandsOver bytes ring client piece number two bytesNow ringNow
  piece-answered ring client piece reply number two bytesNow ringNow e q t =
      let r : EngineRecord = record_of bytes in
      let both : reply ≡ piece_result r ring client piece = e ∙ ap (λ (x : EngineRecord). piece_result x ring client piece) is in
      let s = subst (λ (x : Reply). ProgressWritten bytes (written x.engine bytes) x.answer number two bytesNow) both t in
      record {
        answered = record {
          number_is = s.number_is;
          two_are = s.two_are;
          record_is =
              s.record_is
              ∙ whole bytes (piece_result r ring client piece).engine (refusal_number_of (piece_result r ring client piece).answer)
              (λ z. fits bytes (piece-allowed r (length ring) client (length piece) (sym (piece-number r ring client piece) ∙ z)).own.ok);
        };
        ring_is = q ∙ ap (λ (x : EngineRecord). piece_ring x ring client piece) is;
      }

  pub cancel-answered : (client : ℕ) (reply : Reply) (number value : ℕ) (bytesNow : List ℕ) → reply ≡ cancel_result engine client →
      ValueWritten bytes (written reply.engine bytes) reply.answer number value bytesNow → Cancels bytes client number bytesNow
  unfolding Cancels
  cancel-answered client reply number value bytesNow e t =
      let both : reply ≡ cancel_result (record_of bytes) client = e ∙ ap (λ (x : EngineRecord). cancel_result x client) is in
      done-whole bytes (cancel_result (record_of bytes) client) number value bytesNow
      (λ z. fits bytes (cancel-allowed (record_of bytes) client (sym (cancel-number (record_of bytes) client) ∙ z)).ok)
      (subst (λ (x : Reply). ValueWritten bytes (written x.engine bytes) x.answer number value bytesNow) both t)

  pub close-answered : (memory : List ℕ) (client : ℕ) (reply : Reply) (number value : ℕ) (bytesNow memoryNow : List ℕ) → reply ≡ close_result engine (length memory) client →
      memoryNow ≡ close_memory engine memory client → ValueWritten bytes (written reply.engine bytes) reply.answer number value bytesNow → Closes bytes memory client number bytesNow memoryNow
  close-answered memory client reply number value bytesNow memoryNow e q t =
      let r : EngineRecord = record_of bytes in
      let both : reply ≡ close_result r (length memory) client = e ∙ ap (λ (x : EngineRecord). close_result x (length memory) client) is in
      record {
        answered =
            done-whole bytes (close_result r (length memory) client) number value bytesNow
            (λ z. fits bytes (close-allowed r (length memory) client (sym (close-number r (length memory) client) ∙ z)).ok)
            (subst (λ (x : Reply). ValueWritten bytes (written x.engine bytes) x.answer number value bytesNow) both t);
        memory_is = q ∙ ap (λ (x : EngineRecord). close_memory x memory client) is;
      }

  pub pending-answered : (client : ℕ) (a : Result Answer Refusal) (words : List ℕ) → a ≡ pending_answer engine client → words ≡ short_answer (refusal_number_of a) (value_of a) →
      Pends bytes client (get_or words 0 0) (get_or words 1 0)
  pending-answered client a words e w = record { number_is = rw (w, e, is); value_is = rw (w, e, is) }

-- ---- set up

module _ (bytes : List ℕ) (ring memory common : ℕ) (reset : ResetRule) where
  pub set-up-answered : (reply : Reply) (number value : ℕ) (bytesNow : List ℕ) → length bytes ≡ 272 → reply ≡ set_up_result ring memory common reset →
      ValueWritten bytes (written reply.engine bytes) reply.answer number value bytesNow → SetsUp bytes ring memory common reset number bytesNow
  set-up-answered reply number value bytesNow n e t =
      let s = value-written-whole bytes reply number value bytesNow (λ z. n) t in
      record { number_is = rw (eq-eqb (length bytes) 272 n, ← e) s.number_is; record_is = rw (eq-eqb (length bytes) 272 n, ← e) s.record_is }

  pub set-up_lent : (length bytes ≡ 272 → ⊥) → SetsUp bytes ring memory common reset 11 bytes
  unfolding unless_refused
  set-up_lent n = record { number_is = rw (ne_eqb (length bytes) 272 n); record_is = rw (ne_eqb (length bytes) 272 n) }
