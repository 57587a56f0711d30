-- The model that record, ring and memory stand for, and what of it is read where.
use mathlib.Core.Path.{◌≡◌, refl, ap, sym, ◌∙◌}
use mathlib.Core.List.{List}
use mathlib.Core.Bool.{Bool, true, false, cond}
use borrow.Author.Tests.{eqb-true, lt-ltb, le-ltb}
use Rattle.word.proofs.Tests.{split}
use Prim.Native.Nat.{ℕ, ◌+◌, ◌%◌, ◌≤◌, ◌<◌}
use native.Mathlib.Nat.{add-zero}
use native.Mathlib.Omega.{arith}
use lib.ListN.{length, get_or}
use lib.Dec.{eqb}
use Rattle.ring.specs.Segment.{wrap_offset, segment}
use mathlib.Core.Logic.{⊎_elim}
use Rattle.ring.proofs.Wrapped.{wrapped_in, wrapped_below}
use Rattle.ring.proofs.Segment.{length-segment}
use Rattle.engine_record.proofs.Unfinished.{Unfinished, staged_cases}
use Rattle.engine_record.specs.declared.Setup.{Setup as Numbers}
use Rattle.engine_record.specs.declared.EngineRecord.{EngineRecord}
use Rattle.engine_record.specs.Staged.{no_staged, is_idle, staged_by, staged_slots, missing_bytes}
use Rattle.engine_record.specs.Slots.{ready_batches, count_of as countIn}
use Rattle.engine_record.specs.Clients.{is_open, client_at}
use Rattle.engine_record.specs.Queue.{ready_slots, ready_bytes, write_offset, waiting}
use Rattle.engine_record.specs.Rules.{valid}
use Rattle.engine_record.proofs.Clients.{closed-past, open_place}
use Rattle.engine_record.proofs.Rules.{Valid, valid_facts, sum-waiting, length-waiting, ready-within}
use Rattle.queue.proofs.Validity.{Sized, few-taken}
use Rattle.model.specs.Calls.{Setup}
use Rattle.model.specs.State.{Model, free, is_taken, Staging, idle, staging, is_idle as isIdleM, staged_by as stagedByM, staged_slots as stagedSlotsM, staged_bytes as stagedBytesM, missing_bytes as missingBytesM, total_bytes, count_of, window_of}
use Rattle.claims.specs.Engine.{State}
use Rattle.claims.proofs.Abstraction.{seen_window, seen_places, place-taken, place-window, seen_waiting, waits-length, waits-count, waits-bytes}

-- the staged submission, with the bytes that the ring holds of it
unfoldable pub seen_staging : (ring : List ℕ) → EngineRecord → Staging
seen_staging ring engine =
    cond (is_idle engine.staged) idle (staging engine.staged.client engine.staged.total (segment ring (write_offset engine) engine.staged.received))

module _ (ring : List ℕ) (engine : EngineRecord) where
  pub idle_like : isIdleM (seen_staging ring engine) ≡ is_idle engine.staged
  unfolding seen_staging
  idle_like = go (is_idle engine.staged)
    where
      go : (b : Bool) → isIdleM (cond b idle (staging engine.staged.client engine.staged.total (segment ring (write_offset engine) engine.staged.received))) ≡ b
      go true = refl
      go false = refl

  -- none is seen as none
  pub none_seen : engine.staged ≡ no_staged → seen_staging ring engine ≡ idle
  unfolding seen_staging
  none_seen e = rw e

  pub some-seen : is_idle engine.staged ≡ false → seen_staging ring engine ≡ staging engine.staged.client engine.staged.total (segment ring (write_offset engine) engine.staged.received)
  unfolding seen_staging
  some-seen e = rw e

  pub by_like : (client : ℕ) → stagedByM (seen_staging ring engine) client ≡ staged_by engine.staged client
  unfolding seen_staging
  by_like client = go (is_idle engine.staged)
    where
      go : (b : Bool) → stagedByM (cond b idle (staging engine.staged.client engine.staged.total (segment ring (write_offset engine) engine.staged.received))) client ≡ cond b false (eqb engine.staged.client client)
      go true = refl
      go false = refl

  pub slots_like : stagedSlotsM (seen_staging ring engine) ≡ staged_slots engine.staged
  unfolding seen_staging
  slots_like = go (is_idle engine.staged)
    where
      go : (b : Bool) → stagedSlotsM (cond b idle (staging engine.staged.client engine.staged.total (segment ring (write_offset engine) engine.staged.received))) ≡ cond b 0 1
      go true = refl
      go false = refl

  pub room_like : stagedBytesM (seen_staging ring engine) ≡ engine.staged.total
  unfolding seen_staging
  room_like = go (is_idle engine.staged) refl
    where
      go : (b : Bool) → is_idle engine.staged ≡ b → stagedBytesM (cond b idle (staging engine.staged.client engine.staged.total (segment ring (write_offset engine) engine.staged.received))) ≡ engine.staged.total
      go true e = sym (eqb-true engine.staged.total 0 e)
      go false e = refl

  pub missing_like : length (segment ring (write_offset engine) engine.staged.received) ≡ engine.staged.received → missingBytesM (seen_staging ring engine) ≡ missing_bytes engine.staged
  unfolding seen_staging
  missing_like long = go (is_idle engine.staged) refl
    where
      go : (b : Bool) → is_idle engine.staged ≡ b → missingBytesM (cond b idle (staging engine.staged.client engine.staged.total (segment ring (write_offset engine) engine.staged.received))) ≡ missing_bytes engine.staged
      go true e = omega (arith, eqb-true engine.staged.total 0 e)
      go false e = rw long

-- `accepted` counts more than the record does, whose tickets go round
abbrev pub abstraction : (accepted : ℕ) → State → Model
abstraction accepted s = record {
  places = seen_places s.engine.clients;
  waiting = seen_waiting s.ring (waiting s.engine);
  staged = seen_staging s.ring s.engine;
  accepted = accepted;
  memory = s.memory;
}

abbrev pub numbers_in : Setup → Numbers
numbers_in setup = record { ring = setup.ring; memory = setup.memory; common = setup.common; reset = setup.reset }

-- what holds of record and ring all the time
pub record Sound (setup : Setup) (n : ℕ) (s : State) : Type 0 where
  pub sized : Sized s.engine
  pub ok : valid s.engine ≡ true
  pub numbers : s.engine.setup ≡ numbers_in setup
  pub long : length s.ring ≡ n

pub record Related (setup : Setup) (n : ℕ) (model : Model) (s : State) : Type 0 where
  pub sound : Sound setup n s
  pub next_ticket : s.engine.next_ticket ≡ model.accepted % 4294967296
  pub is : model ≡ abstraction model.accepted s

-- ---- what both read

module _ (setup : Setup) (n : ℕ) (s : State) (S : Sound setup n s) where
  pub facts : Valid s.engine
  facts = valid_facts s.engine S.ok

  -- the same clients are open
  pub open_like : (client : ℕ) → is_taken (get_or (seen_places s.engine.clients) client free) ≡ is_open s.engine client
  open_like client = place-taken client s.engine.clients ∙ ⊎_elim
      (λ (h : client < 4). rw (lt-ltb client 4 h))
      (λ (h : 4 ≤ client). rw (le-ltb client 4 h) (sym (closed-past s.engine.clients client (omega (arith, S.sized.clients)))))
      (split client 4)

  -- as many batches wait as slots are taken
  pub slots-count : length (seen_waiting s.ring (waiting s.engine)) ≡ ready_slots s.engine
  slots-count = waits-length s.ring (waiting s.engine) ∙ length-waiting s.engine facts (few-taken s.engine S.sized)

  -- with the bytes that are taken, in a ring of the length that was set up
  pub bytes_count : n ≡ setup.ring → total_bytes (seen_waiting s.ring (waiting s.engine)) ≡ ready_bytes s.engine
  bytes_count same =
      let ring : s.engine.setup.ring ≡ length s.ring = ap (λ (x : Numbers). x.ring) S.numbers ∙ omega (arith, S.long) in
      let first : wrap_offset (length s.ring) (s.engine.read_offset + 0) ≡ s.engine.read_offset =
      rw add-zero (wrapped_in (length s.ring) s.engine.read_offset (omega (arith, facts.numbers.below)))
      in
      waits-bytes s.ring s.engine.read_offset 0 (waiting s.engine) (omega (arith, facts.numbers.below)) (omega (arith, facts.within)) (rw (first, ← ring) facts.ends)
      ∙ sym (sum-waiting s.engine facts (few-taken s.engine S.sized) (λ b. b.length))

  -- the ring holds as many bytes of the staged submission as have come
  pub staged_long : n ≡ setup.ring → length (segment s.ring (write_offset s.engine) s.engine.staged.received) ≡ s.engine.staged.received
  staged_long same =
      let ring : s.engine.setup.ring ≡ length s.ring = ap (λ (x : Numbers). x.ring) S.numbers ∙ omega (arith, S.long) in
      let ready = ready-within s.engine facts (few-taken s.engine S.sized) in
      let below = wrapped_below s.engine.setup.ring (s.engine.read_offset + ready_bytes s.engine) (omega (arith, facts.numbers.below)) in
      let short : s.engine.staged.received ≤ s.engine.setup.ring =
      ⊎_elim (λ (z : s.engine.staged ≡ no_staged). rw z (omega arith)) (λ (u : (is_idle s.engine.staged ≡ false) × Unfinished s.engine). omega (arith, u.1.short, u.1.room)) (staged_cases s.engine facts.staged)
      in
      length-segment s.ring (write_offset s.engine) s.engine.staged.received (record { starts = omega arith; fits = omega arith })

  -- and the counts of each client
  pub client-count : (client : ℕ) → count_of client (seen_waiting s.ring (waiting s.engine)) ≡ countIn client (ready_batches s.engine.slots)
  client-count client =
      waits-count client s.ring (waiting s.engine)
      ∙ sym (sum-waiting s.engine facts (few-taken s.engine S.sized) (λ b. cond (eqb b.client client) 1 0))

  -- an open client's window
  pub window-at : (accepted client : ℕ) → is_open s.engine client ≡ true → window_of (abstraction accepted s) client ≡ seen_window (client_at s.engine client).window
  window-at accepted client h = place-window client s.engine.clients (open_place s.engine client h).1
