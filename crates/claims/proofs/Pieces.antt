-- A piece, if it is not refused, answers as the model does and leaves what it leaves: in the ring it is as if all the bytes so far were copied in at once.
use mathlib.Core.Path.{◌≡◌, refl, ap, sym, subst, ◌∙◌}
use mathlib.Core.List.{List, ◌++◌}
use mathlib.Core.Bool.{Bool, true, false, cond}
use Prim.Native.Nat.{ℕ, suc, ◌+◌, ◌-◌, ◌%◌}
use native.Mathlib.Nat.{add-zero}
use native.Mathlib.Omega.{arith}
use lib.ListN.{length, length-append}
use lib.Dec.{eqb}
use borrow.Author.Tests.{eqb-true, eqb-false}
use Rattle.ring.specs.Segment.{LiesInRing, wrap_offset, segment}
use Rattle.ring.specs.Copied.{copied_in}
use Rattle.ring.proofs.Wrapped.{wrapped_in, wrapped_below}
use Rattle.ring.proofs.Copied.{length-copied, segment-copied}
use Rattle.engine_record.specs.declared.Setup.{Setup as Numbers}
use Rattle.engine_record.specs.declared.Batch.{Batch}
use Rattle.engine_record.specs.declared.Staged.{Staged}
use Rattle.engine_record.specs.declared.EngineRecord.{EngineRecord}
use Rattle.engine_record.specs.Slots.{total_length}
use Rattle.engine_record.specs.Staged.{no_staged, missing_bytes}
use Rattle.engine_record.specs.Queue.{ready_bytes, write_offset, waiting}
use Rattle.engine_record.specs.Rules.{valid}
use Rattle.engine_record.proofs.Line.{held, held_kept}
use Rattle.engine_record.proofs.Pieces.{copied_behind}
use Rattle.engine_record.proofs.Rules.{sum-waiting, ready-within}
use Rattle.queue.specs.declared.Answer.{Answer as QueueAnswer}
use Rattle.queue.specs.declared.Answer.TheVariants.{Accepted, Missing}
use Rattle.queue.specs.Calls.{new_batch, with_batch, with_staged, more, is_last, piece_offset}
use Rattle.queue.proofs.Refusals.{PieceAllowed, piece-allowed}
use Rattle.queue.proofs.Calls.{more_record}
use Rattle.queue.proofs.Validity.{few-taken, staged-sized}
use Rattle.queue.proofs.Submitted.{Addable, staged_addable, added-sized, added-valid, added-held}
use Rattle.queue.proofs.Preservation.{after-piece}
use Rattle.model.specs.Calls.{Setup, piece, accepted, missing}
use Rattle.model.specs.State.{Staging, staging}
use Rattle.model.specs.Model.{Step, plain, enqueue, piece_step, effect, with_staged as withStagedM}
use Rattle.claims.specs.ModelProperties.{batch_semantics}
use Rattle.claims.specs.Engine.{State, mk_state, model_answer_of}
use Rattle.claims.specs.Queue.{bytes_so_far}
use Rattle.claims.proofs.Cases.{number, done}
use Rattle.claims.proofs.Abstraction.{seen_places, places-recounted, seen_batch}
use Rattle.claims.proofs.SimulationRelation.{abstraction, seen_staging, none_seen, some-seen, facts, staged_long, Sound, Related}
use Rattle.claims.proofs.SimulationSteps.{Simulates}

-- the last piece or another one, alike either way
by_last : (setup : Setup) (n : ℕ) (b : Bool) (answer answer' : QueueAnswer) (engine engine' : EngineRecord) (ring memory : List ℕ) (t t' : Step) →
    (b ≡ true → Simulates setup n (record { answer = model_answer_of answer; after = mk_state engine ring memory }) t) →
    (b ≡ false → Simulates setup n (record { answer = model_answer_of answer'; after = mk_state engine' ring memory }) t') →
    Simulates setup n (record { answer = model_answer_of (cond b answer answer'); after = mk_state (cond b engine engine') ring memory }) (cond b t t')
by_last setup n true answer answer' engine engine' ring memory t t' h k = h refl
by_last setup n false answer answer' engine engine' ring memory t t' h k = k refl

module _ (setup : Setup) (n : ℕ) (s : State) (S : Sound setup n s) (count : ℕ) (next : s.engine.next_ticket ≡ count % 4294967296)
    (client : ℕ) (bytes : List ℕ) (z : number (piece client bytes) s ≡ 0) where
  abbrev pub e : EngineRecord
  e = s.engine

  abbrev pub g : Staged
  g = e.staged

  pub may : PieceAllowed e (length s.ring) client (length bytes)
  may = piece-allowed e (length s.ring) client (length bytes) z

  -- the bytes that have come, and with the piece
  abbrev pub all : List ℕ
  all = bytes_so_far s ++ bytes

  same : n ≡ setup.ring
  same = sym S.long ∙ may.ring ∙ ap (λ (x : Numbers). x.ring) S.numbers

  pub long_all : length all ≡ g.received + length bytes
  long_all = length-append (bytes_so_far s) bytes ∙ ap (λ (x : ℕ). x + length bytes) (staged_long setup n s S same)

  -- in the ring the piece is as if all had been copied in at once
  pub copied : copied_in s.ring (piece_offset e) bytes ≡ copied_in s.ring (write_offset e) all
  copied =
      let v = facts setup n s S in
      let u = may.own.unfinished in
      let ready = ready-within e v (few-taken e S.sized) in
      let below = wrapped_below e.setup.ring (e.read_offset + ready_bytes e) (omega (arith, v.numbers.below)) in
      rw may.ring at (copied_behind s.ring (write_offset e) g.received bytes (omega (arith, may.ring)) (omega (arith, may.ring, may.fits, u.room)))

  abbrev pub filled : List ℕ
  filled = copied_in s.ring (write_offset e) all

  pub lies : LiesInRing s.ring (write_offset e) (length all)
  lies =
      let v = facts setup n s S in
      let ready = ready-within e v (few-taken e S.sized) in
      let below = wrapped_below e.setup.ring (e.read_offset + ready_bytes e) (omega (arith, v.numbers.below)) in
      record { starts = omega (arith, may.ring); fits = omega (arith, may.ring, long_all, may.fits, may.own.unfinished.room) }

  long_filled : length filled ≡ n
  long_filled = length-copied s.ring (write_offset e) all lies ∙ S.long

  -- the waiting batches keep their bytes; f puts a batch and its bytes together
  pub kept : {A : Type 0} (f : Batch → List ℕ → A) → held f filled (waiting e) ≡ held f s.ring (waiting e)
  kept f =
      let v = facts setup n s S in
      let u = may.own.unfinished in
      let bytes_ready : ready_bytes e ≡ total_length (waiting e) = sum-waiting e v (few-taken e S.sized) (λ b. b.length) in
      let first : wrap_offset (length s.ring) (e.read_offset + 0) ≡ e.read_offset = rw add-zero (wrapped_in (length s.ring) e.read_offset (omega (arith, may.ring, v.numbers.below))) in
      rw may.ring at (held_kept f s.ring e.read_offset 0 (ready_bytes e) (waiting e) all (omega (arith, may.ring, v.numbers.below)) (omega arith)
      (omega (arith, may.ring, long_all, may.fits, u.room)) (rw (first, may.ring) v.ends))

  -- and the ring holds all the bytes that have come
  pub come : segment filled (write_offset e) (g.received + length bytes) ≡ all
  come = ap (segment filled (write_offset e)) (sym long_all) ∙ segment-copied s.ring (write_offset e) all lies

  -- ---- the last

  module _ (last : is_last g (length bytes) ≡ true) where
    pub whole : length all ≡ g.total
    whole = long_all ∙ eqb-true (g.received + length bytes) g.total last

    pub addable : Addable e g.slot g.client (length all)
    addable = subst (λ (t : ℕ). Addable e g.slot g.client t) (sym whole) (staged_addable e client may.own)

    abbrev ready : EngineRecord
    ready = with_batch e g.slot (new_batch e g.client (length all))

    last_none : ready.staged ≡ no_staged
    unfolding with_batch
    last_none = refl

    last-places : seen_places ready.clients ≡ seen_places e.clients
    unfolding with_batch
    last-places = places-recounted e.clients g.client _

    last-sound : Sound setup n (mk_state ready filled s.memory)
    unfolding with_batch
    last-sound = record {
      sized = added-sized e g.slot (new_batch e g.client (length all)) S.sized;
      ok = added-valid e S.sized g.slot g.client (length all) addable;
      numbers = S.numbers;
      long = long_filled;
    }

    last-next : ready.next_ticket ≡ suc count % 4294967296
    unfolding with_batch
    last-next = rw next (omega arith)

    last_related : Related setup n (enqueue (abstraction count s) g.client all).after (mk_state ready filled s.memory)
    last_related = record {
      sound = last-sound;
      next_ticket = last-next;
      is = rw (last-places, added-held seen_batch e S.sized s.ring may.ring g.slot g.client all addable, none_seen filled ready last_none, next);
    }

    last_done : Simulates setup n
        (record { answer = accepted e.next_ticket; after = mk_state (with_batch e g.slot (new_batch e g.client g.total)) (copied_in s.ring (piece_offset e) bytes) s.memory })
        (enqueue (abstraction count s) g.client all)
    last_done = (
      ap accepted next,
      subst (λ (r : List ℕ). Related setup n (enqueue (abstraction count s) g.client all).after (mk_state (with_batch e g.slot (new_batch e g.client g.total)) r s.memory)) (sym copied)
          (subst (λ (t : ℕ). Related setup n (enqueue (abstraction count s) g.client all).after (mk_state (with_batch e g.slot (new_batch e g.client t)) filled s.memory)) whole last_related),
    )

  -- ---- another

  module _ (other : is_last g (length bytes) ≡ false) where
    abbrev on : EngineRecord
    on = with_staged e (more g (length bytes))

    on-valid : valid on ≡ true
    on-valid =
        subst (λ (r : EngineRecord). valid r ≡ true) (sym (more_record e (length bytes) (eqb-false (g.received + length bytes) g.total other)))
        (after-piece e S.sized S.ok (length s.ring) client (length bytes) may).0

    on-sound : Sound setup n (mk_state on filled s.memory)
    unfolding with_staged
    on-sound = record {
      sized = staged-sized e (more g (length bytes)) S.sized;
      ok = on-valid;
      numbers = S.numbers;
      long = long_filled;
    }

    -- and the staged bytes are all that have come
    on-seen : seen_staging filled on ≡ staging g.client g.total all
    unfolding with_staged
    on-seen =
        some-seen filled on may.own.some ∙ ap (staging g.client g.total) come

    on_related : Related setup n (withStagedM (abstraction count s) (staging g.client g.total all)) (mk_state on filled s.memory)
    unfolding with_staged
    on_related = record { sound = on-sound; next_ticket = next; is = rw (on-seen, kept seen_batch) }

    on-done : Simulates setup n
        (record { answer = missing (missing_bytes (more g (length bytes))); after = mk_state on (copied_in s.ring (piece_offset e) bytes) s.memory })
        (plain (missing (g.total - length all)) (withStagedM (abstraction count s) (staging g.client g.total all)))
    on-done = (
      ap (λ (k : ℕ). missing (g.total - k)) (sym long_all),
      subst (λ (r : List ℕ). Related setup n (withStagedM (abstraction count s) (staging g.client g.total all)) (mk_state on r s.memory)) (sym copied) on_related,
    )

  -- ---- either

  pub piece-done : Simulates setup n (done (piece client bytes) s) (effect (batch_semantics setup) setup n (piece client bytes) (abstraction count s))
  unfolding effect
  piece-done =
      let last : Step = enqueue (abstraction count s) g.client all in
      let other : Step = plain (missing (g.total - length all)) (withStagedM (abstraction count s) (staging g.client g.total all)) in
      subst (λ (x : Staging). Simulates setup n (done (piece client bytes) s) (piece_step (abstraction count s) x bytes)) (sym (some-seen s.ring e may.own.some))
      (subst (λ (k : ℕ). Simulates setup n (done (piece client bytes) s) (cond (eqb k g.total) last other)) (sym long_all)
      (by_last setup n (is_last g (length bytes)) (Accepted e.next_ticket) (Missing (missing_bytes (more g (length bytes))))
      (with_batch e g.slot (new_batch e g.client g.total)) (with_staged e (more g (length bytes))) (copied_in s.ring (piece_offset e) bytes) s.memory last other last_done on-done))
