-- Open, submit, begin, cancel, close and pending, if they are not refused, answer as the model does and leave what it leaves.
use mathlib.Core.Path.{◌≡◌, refl, ap, sym, ◌∙◌}
use mathlib.Core.List.{List, []}
use mathlib.Core.Bool.{true}
use borrow.Author.Tests.{ne_eqb}
use Rattle.ring.specs.Copied.{copied_in}
use Prim.Native.Nat.{ℕ, zero, suc, ◌%◌}
use native.Mathlib.Omega.{arith}
use lib.ListN.{length, set}
use Rattle.ring.proofs.Copied.{length-copied}
use Rattle.engine_record.specs.declared.Batch.{Batch as Ready}
use Rattle.engine_record.specs.Slots.{lowest_free}
use Rattle.engine_record.specs.Staged.{no_staged}
use Rattle.engine_record.specs.Rules.{valid}
use Rattle.engine_record.proofs.Rules.{length-good}
use Rattle.ring.specs.Segment.{segment}
use Rattle.engine_record.specs.Queue.{write_offset}
use Rattle.queue.specs.Calls.{unless_refused, with_client, without_client, new_batch, with_batch, submitted, with_staged, begun, begin_result, cancel_result}
use Rattle.queue.proofs.Refusals.{open_allowed, SubmitAllowed, submit-allowed, CloseAllowed, close-allowed}
use Rattle.queue.proofs.Validity.{open_sized, open_valid, open_waiting, close-sized, close-valid, close-waiting}
use Rattle.queue.proofs.Submitted.{Addable, submit_addable, added-sized, added-valid, added-held}
use Rattle.queue.proofs.Preservation.{begin_preserves, cancel_preserves}
use Rattle.queue.proofs.Room.{submit_lies}
use Rattle.model.specs.Windows.{Window}
use Rattle.model.specs.Calls.{Setup, opens, submit, pending, begin, cancel, close, opened, accepted, ready}
use Rattle.model.specs.State.{Model, free, taken, lowest_free_id, idle, staging}
use Rattle.model.specs.Model.{Step, refuse_or, effect}
use Rattle.claims.specs.ModelProperties.{batch_semantics}
use Rattle.claims.specs.Engine.{State, CallResult}
use Rattle.claims.proofs.Cases.{given, number, done, either}
use Rattle.claims.proofs.Abstraction.{seen_places, places-lowest, places-set, places-recounted, seen_batch}
use Rattle.claims.proofs.SimulationRelation.{abstraction, seen_staging, none_seen, Sound, Related, client-count, window-at}

-- the same answer, and related ends
abbrev pub Simulates : Setup → ℕ → CallResult → Step → Type 0
Simulates setup n c t = (c.answer ≡ t.answer) × Related setup n t.after c.after

-- refused alike, or alike if they are done
pub either-alike : (setup : Setup) (n k k' : ℕ) (model : Model) (s : State) (d : CallResult) (t : Step) → k ≡ k' → Related setup n model s →
    (k ≡ 0 → Simulates setup n d t) → Simulates setup n (either k s d) (refuse_or k' model t)
unfolding either refuse_or
either-alike setup n k k' model s d t e R h = rw (← e) (go k h)
  where
    go : (k : ℕ) → (k ≡ 0 → Simulates setup n d t) → Simulates setup n (either k s d) (refuse_or k model t)
    go zero h = h refl
    go (suc k) h = (refl, R)

module _ (setup : Setup) (n : ℕ) (s : State) (S : Sound setup n s) (count : ℕ) (next : s.engine.next_ticket ≡ count % 4294967296) where
  -- ---- open

  open_sound : (w : Window) → number (opens w) s ≡ 0 → Sound setup n (done (opens w) s).after
  unfolding with_client
  open_sound w z = record {
    sized = open_sized s.engine (given w) S.sized;
    ok = open_valid s.engine (given w) S.sized (open_allowed s.engine (given w) z);
    numbers = S.numbers;
    long = S.long;
  }

  open_staged : (w : Window) → seen_staging s.ring (with_client s.engine (given w)) ≡ seen_staging s.ring s.engine
  unfolding seen_staging with_client
  open_staged w = refl

  open_next : (w : Window) → (done (opens w) s).after.engine.next_ticket ≡ count % 4294967296
  unfolding with_client
  open_next w = next

  open_places : (w : Window) → seen_places (with_client s.engine (given w)).clients ≡ set (seen_places s.engine.clients) (lowest_free_id (seen_places s.engine.clients)) (taken w)
  unfolding with_client
  open_places w = places-set s.engine.clients _ _ ∙ ap (λ (k : ℕ). set (seen_places s.engine.clients) k (taken w)) (sym (places-lowest s.engine.clients))

  pub open_done : (w : Window) → number (opens w) s ≡ 0 → Simulates setup n (done (opens w) s) (effect (batch_semantics setup) setup n (opens w) (abstraction count s))
  unfolding effect
  open_done w z = (
    ap opened (sym (places-lowest s.engine.clients)),
    record {
      sound = open_sound w z;
      next_ticket = open_next w;
      is = rw (open_places w, open_waiting s.engine (given w) S.sized, open_staged w);
    },
  )

  -- ---- submit

  module _ (client : ℕ) (bytes : List ℕ) (z : number (submit client bytes) s ≡ 0) where
    allowed : SubmitAllowed s.engine (length s.ring) client (length bytes)
    allowed = submit-allowed s.engine (length s.ring) client (length bytes) z

    abbrev b : Ready
    b = new_batch s.engine client (length bytes)

    abbrev at : ℕ
    at = lowest_free s.engine.slots

    addable : Addable s.engine at client (length bytes)
    addable = submit_addable s.engine S.sized (length s.ring) client (length bytes) allowed

    submit-none : (submitted s.engine client (length bytes)).staged ≡ no_staged
    unfolding with_batch
    submit-none = refl

    submit-places : seen_places (submitted s.engine client (length bytes)).clients ≡ seen_places s.engine.clients
    unfolding with_batch
    submit-places = places-recounted s.engine.clients client _

    submit-sound : Sound setup n (done (submit client bytes) s).after
    unfolding with_batch
    submit-sound = record {
      sized = added-sized s.engine at b S.sized;
      ok = added-valid s.engine S.sized at client (length bytes) addable;
      numbers = S.numbers;
      long = length-copied s.ring (write_offset s.engine) bytes (submit_lies s.engine s.ring client (length bytes) allowed) ∙ S.long;
    }

    submit-next : (done (submit client bytes) s).after.engine.next_ticket ≡ suc count % 4294967296
    unfolding with_batch
    submit-next = rw next (omega arith)

    pub submit-done : Simulates setup n (done (submit client bytes) s) (effect (batch_semantics setup) setup n (submit client bytes) (abstraction count s))
    unfolding effect
    submit-done = (
      ap accepted next,
      record {
        sound = submit-sound;
        next_ticket = submit-next;
        is = rw (submit-places, added-held seen_batch s.engine S.sized s.ring allowed.ring at client bytes addable, none_seen (copied_in s.ring (write_offset s.engine) bytes) (submitted s.engine client (length bytes)) submit-none, next);
      },
    )

  -- ---- begin and cancel

  module _ (client total : ℕ) (z : number (begin client total) s ≡ 0) where
    begin_ok : valid (with_staged s.engine (begun s.engine client total)) ≡ true
    unfolding begin_result unless_refused
    begin_ok = rw z at (begin_preserves s.engine S.sized S.ok (length s.ring) client total).0

    begin-sound : Sound setup n (done (begin client total) s).after
    unfolding with_staged
    begin-sound = record { sized = record { clients = S.sized.clients; slots = S.sized.slots; next_ticket = S.sized.next_ticket }; ok = begin_ok; numbers = S.numbers; long = S.long }

    begin-seen : seen_staging s.ring (with_staged s.engine (begun s.engine client total)) ≡ staging client total []
    unfolding seen_staging with_staged segment
    begin-seen =
        let good = length-good s.engine.setup.ring total (submit-allowed s.engine (length s.ring) client total z).allowed in
        rw (ne_eqb total 0 (omega (arith, good.some)))

    pub begin-done : Simulates setup n (done (begin client total) s) (effect (batch_semantics setup) setup n (begin client total) (abstraction count s))
    unfolding effect with_staged
    begin-done = (refl, record { sound = begin-sound; next_ticket = next; is = rw begin-seen })

  module _ (client : ℕ) (z : number (cancel client) s ≡ 0) where
    cancel_ok : valid (with_staged s.engine no_staged) ≡ true
    unfolding cancel_result unless_refused
    cancel_ok = rw z at (cancel_preserves s.engine S.sized S.ok client).0

    cancel-sound : Sound setup n (done (cancel client) s).after
    unfolding with_staged
    cancel-sound = record { sized = record { clients = S.sized.clients; slots = S.sized.slots; next_ticket = S.sized.next_ticket }; ok = cancel_ok; numbers = S.numbers; long = S.long }

    cancel-seen : seen_staging s.ring (with_staged s.engine no_staged) ≡ idle
    unfolding with_staged
    cancel-seen = none_seen s.ring (with_staged s.engine no_staged) refl

    pub cancel-done : Simulates setup n (done (cancel client) s) (effect (batch_semantics setup) setup n (cancel client) (abstraction count s))
    unfolding effect with_staged
    cancel-done = (refl, record { sound = cancel-sound; next_ticket = next; is = rw cancel-seen })

  -- ---- close

  module _ (client : ℕ) (z : number (close client) s ≡ 0) where
    may : CloseAllowed s.engine (length s.memory) client
    may = close-allowed s.engine (length s.memory) client z

    close-sound : Sound setup n (done (close client) s).after
    unfolding without_client
    close-sound = record {
      sized = close-sized s.engine client S.sized;
      ok = close-valid s.engine client S.sized (length s.memory) may;
      numbers = S.numbers;
      long = S.long;
    }

    close-next : (done (close client) s).after.engine.next_ticket ≡ count % 4294967296
    unfolding without_client
    close-next = next

    close-places : seen_places (without_client s.engine client).clients ≡ set (seen_places s.engine.clients) client free
    unfolding without_client
    close-places = places-set s.engine.clients client _

    close-staged : seen_staging s.ring (without_client s.engine client) ≡ seen_staging s.ring s.engine
    unfolding seen_staging without_client
    close-staged = refl

    pub close-done : Simulates setup n (done (close client) s) (effect (batch_semantics setup) setup n (close client) (abstraction count s))
    unfolding effect
    close-done = (
      refl,
      record {
        sound = close-sound;
        next_ticket = close-next;
        is = rw (close-places, close-waiting s.engine client, close-staged, window-at setup n s S count client may.owner);
      },
    )

  -- ---- pending

  pub pending_done : (client : ℕ) → Simulates setup n (done (pending client) s) (effect (batch_semantics setup) setup n (pending client) (abstraction count s))
  unfolding effect
  pending_done client = (ap ready (sym (client-count setup n s S client)), record { sound = S; next_ticket = next; is = refl })
