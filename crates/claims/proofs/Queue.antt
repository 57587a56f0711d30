-- The queue is as 01 and 02, 6 and 11, say, after any list of calls.
use mathlib.Core.Path.{◌≡◌, refl, ap, sym, subst, ◌∙◌}
use mathlib.Core.Bool.{Bool, true, false, ◌&&◌}
use mathlib.Core.List.{List, [], ◌∷◌, ◌++◌}
use Prim.Native.Nat.{ℕ, ◌+◌, ◌%◌, ◌≤◌, ◌<◌}
use native.Mathlib.Omega.{arith}
use lib.ListN.{length}
use lib.Seq.{get_or-set_same, get_or-set_other}
use lib.Dec.{ltb}
use Rattle.engine_record.specs.declared.Batch.{Batch}
use Rattle.engine_record.specs.declared.Client.{Client}
use Rattle.engine_record.specs.Clients.{no_client, client_at, is_open, lowest_closed}
use Rattle.engine_record.specs.Slots.{lowest_free}
use Rattle.engine_record.specs.Queue.{ready_slots, waiting}
use Rattle.engine_record.proofs.Line.{held}
use Rattle.engine_record.proofs.Clients.{closed-below, closed_is, closed_least, open_place, place_open}
use Rattle.engine_record.proofs.Windows.{window_placed}
use Rattle.engine_record.proofs.Rules.{valid_facts, write_newest, write_first, free-room}
use Rattle.queue.specs.Refusals.{first_refusal}
use Rattle.queue.specs.Calls.{new_batch, with_batch, with_staged, is_last, with_client, without_client}
use Rattle.queue.proofs.Refusals.{open_allowed, submit-allowed, close-allowed}
use Rattle.queue.proofs.Validity.{few-taken, close-waiting}
use Rattle.queue.proofs.Submitted.{submit_addable, staged_addable, added-waiting, added-held}
use Rattle.engine.proofs.Refusals.{run-allowed}
use Rattle.engine.proofs.Preservation.{run-waiting, run-kept, oldest-at, oldest-words}
use Rattle.model.specs.Windows.{Window, window}
use Rattle.model.specs.Calls.{Setup, Call, opens, submit, run, begin, piece, cancel, close}
use Rattle.model.proofs.Locality.{zero_local, zero_in}
use Rattle.claims.specs.Engine.{State, mk_state, perform_call}
use Rattle.claims.specs.Demand1.{refusal_table_of}
use Rattle.claims.specs.Demand3.{final_state}
use Rattle.claims.specs.Queue.{bytes_so_far, contents, Submitted, Begun, Continued, Finished, Cancelled, Taken, SameQueue, Opened, Closed, Queue, QueueHolds}
use Rattle.claims.proofs.Cases.{given, done, either, by_number}
use Rattle.claims.proofs.SimulationRelation.{Sound, facts}
use Rattle.claims.proofs.Pieces.{may, copied, filled, kept, come, whole, addable}
use Rattle.claims.proofs.Runs.{run-offset}
use Rattle.claims.proofs.Simulation.{at-end}
use Rattle.claims.proofs.Freed.{window_freed}

-- a batch's bytes alone
abbrev alone : Batch → List ℕ → List ℕ
alone b bytes = bytes

contents-held : (ring : List ℕ) (bs : List Batch) → contents ring bs ≡ held alone ring bs
unfolding contents held
contents-held ring [] = refl
contents-held ring (b ∷ bs) = rw (contents-held ring bs)

module _ (setup : Setup) (n : ℕ) (s : State) (S : Sound setup n s) where
  allowed : (c : Call) → first_refusal (refusal_table_of c s) ≡ 0 → perform_call c s ≡ done c s
  unfolding either
  allowed c z = rw (by_number c s, z)

  few : ready_slots s.engine ≤ 8
  few = few-taken s.engine S.sized

  submitted : (client : ℕ) (bytes : List ℕ) → first_refusal (refusal_table_of (submit client bytes) s) ≡ 0 → Submitted client bytes s (perform_call (submit client bytes) s).after
  submitted client bytes z =
      let a = submit-allowed s.engine (length s.ring) client (length bytes) z in
      let at : ℕ = lowest_free s.engine.slots in
      let d = submit_addable s.engine S.sized (length s.ring) client (length bytes) a in
      rw (allowed (submit client bytes) z)
      (record {
        last = added-waiting s.engine S.sized at client (length bytes) d;
        copied =
            contents-held _ _ ∙ added-held alone s.engine S.sized s.ring a.ring at client bytes d
            ∙ ap (λ (l : List (List ℕ)). l ++ bytes ∷ []) (sym (contents-held _ _));
      })

  -- the next ticket is its own remainder
  own : s.engine.next_ticket ≡ s.engine.next_ticket % 4294967296
  own = omega (arith, S.sized.next_ticket)

  begins : (client total : ℕ) → first_refusal (refusal_table_of (begin client total) s) ≡ 0 → Begun client total s (perform_call (begin client total) s).after
  unfolding with_staged
  begins client total z = rw (allowed (begin client total) z) (record { held = refl; waits = refl; ring = refl })

  module _ (client : ℕ) (bytes : List ℕ) (z : first_refusal (refusal_table_of (piece client bytes) s) ≡ 0) where
    continued : is_last s.engine.staged (length bytes) ≡ false → Continued bytes s (perform_call (piece client bytes) s).after
    unfolding with_staged
    continued other =
        rw (allowed (piece client bytes) z, other, copied setup n s S s.engine.next_ticket own client bytes z)
        (record {
          on = refl;
          come = come setup n s S s.engine.next_ticket own client bytes z;
          waits = refl;
          kept = contents-held _ _ ∙ kept setup n s S s.engine.next_ticket own client bytes z alone ∙ sym (contents-held _ _);
        })

    -- of a batch whose length is that of all the bytes that have come
    whole-held : is_last s.engine.staged (length bytes) ≡ true →
        contents (filled setup n s S s.engine.next_ticket own client bytes z)
        (waiting (with_batch s.engine s.engine.staged.slot (new_batch s.engine s.engine.staged.client s.engine.staged.total)))
        ≡ contents s.ring (waiting s.engine) ++ (bytes_so_far s ++ bytes) ∷ []
    whole-held last =
        subst
        (λ (t : ℕ). contents (filled setup n s S s.engine.next_ticket own client bytes z)
        (waiting (with_batch s.engine s.engine.staged.slot (new_batch s.engine s.engine.staged.client t)))
        ≡ contents s.ring (waiting s.engine) ++ (bytes_so_far s ++ bytes) ∷ [])
        (whole setup n s S s.engine.next_ticket own client bytes z last)
        (contents-held _ _
        ∙ added-held alone s.engine S.sized s.ring (may setup n s S s.engine.next_ticket own client bytes z).ring s.engine.staged.slot s.engine.staged.client (bytes_so_far s ++ bytes)
        (addable setup n s S s.engine.next_ticket own client bytes z last)
        ∙ ap (λ (l : List (List ℕ)). l ++ (bytes_so_far s ++ bytes) ∷ []) (sym (contents-held _ _)))

    finished : is_last s.engine.staged (length bytes) ≡ true → Finished bytes s (perform_call (piece client bytes) s).after
    unfolding with_batch
    finished last =
        rw (allowed (piece client bytes) z, last, copied setup n s S s.engine.next_ticket own client bytes z)
        (record {
          none = refl;
          last = added-waiting s.engine S.sized s.engine.staged.slot s.engine.staged.client s.engine.staged.total
              (staged_addable s.engine client (may setup n s S s.engine.next_ticket own client bytes z).own);
          copied = whole-held last;
        })

  cancelled : (client : ℕ) → first_refusal (refusal_table_of (cancel client) s) ≡ 0 → Cancelled s (perform_call (cancel client) s).after
  unfolding with_staged
  cancelled client z = rw (allowed (cancel client) z) (record { none = refl; waits = refl; read_offset = refl; ring = refl })

  taken : first_refusal (refusal_table_of run s) ≡ 0 → Taken s (perform_call run s).after
  unfolding contents
  taken z =
      let a = run-allowed s.engine (length s.ring) (length s.memory) z in
      let first = run-waiting s.engine S.sized (length s.ring) (length s.memory) a in
      rw (allowed run z)
      (record {
        first = first;
        at_read = oldest-at s.engine S.sized (length s.ring) (length s.memory) a;
        whole = oldest-words s.engine S.sized s.ring (length s.memory) a;
        kept = ap (contents s.ring) first;
        staged = (run-kept s.engine).2;
        so_far = rw (run-offset setup n s S s.engine.next_ticket own z, (run-kept s.engine).2);
      })

  -- ---- open

  id_below : (w : Window) → first_refusal (refusal_table_of (opens w) s) ≡ 0 → lowest_closed s.engine.clients < 4
  id_below w z = omega (arith, closed-below s.engine.clients (omega (arith, (open_allowed s.engine (given w) z).few, S.sized.clients)), S.sized.clients)

  closed-id : (b : Bool) → (b && (client_at s.engine (lowest_closed s.engine.clients)).opened) ≡ false
  closed-id true = closed_is s.engine.clients
  closed-id false = refl

  at-id : (w : Window) → first_refusal (refusal_table_of (opens w) s) ≡ 0 →
      client_at (with_client s.engine (given w)) (lowest_closed s.engine.clients) ≡ record { window = given w; pending = 0; opened = true }
  unfolding with_client
  at-id w z = get_or-set_same s.engine.clients (lowest_closed s.engine.clients) _ no_client (omega (arith, id_below w z, S.sized.clients))

  not-id : (w : Window) (k : ℕ) → ¬ (k ≡ lowest_closed s.engine.clients) → client_at (with_client s.engine (given w)) k ≡ client_at s.engine k
  unfolding with_client
  not-id w k n = get_or-set_other s.engine.clients (lowest_closed s.engine.clients) k _ no_client n

  opened-kept : (w : Window) → (ring memory : List ℕ) → SameQueue s (mk_state (with_client s.engine (given w)) ring memory)
  unfolding with_client
  opened-kept w ring memory = record { setup = refl; slots = refl; read_offset = refl; next_ticket = refl; staged = refl }

  opened : (w : Window) → first_refusal (refusal_table_of (opens w) s) ≡ 0 → Opened w s (perform_call (opens w) s).after
  opened w z =
      rw (allowed (opens w) z)
      (record {
        free = closed-id (ltb (lowest_closed s.engine.clients) 4);
        lowest = λ k h. place_open s.engine k (omega (arith, id_below w z)) (closed_least s.engine.clients k h);
        window = at-id w z;
        others = not-id w;
        queue = opened-kept w s.ring s.memory;
        ring = refl;
        memory = refl;
      })

  -- ---- close

  not-closed : (client k : ℕ) → ¬ (k ≡ client) → client_at (without_client s.engine client) k ≡ client_at s.engine k
  unfolding without_client
  not-closed client k n = get_or-set_other s.engine.clients client k no_client no_client n

  none_there : (client : ℕ) → client < 4 → client_at (without_client s.engine client) client ≡ no_client
  unfolding without_client
  none_there client h = get_or-set_same s.engine.clients client no_client no_client (omega (arith, S.sized.clients))

  closed-now : (client : ℕ) → client < 4 → is_open (without_client s.engine client) client ≡ false
  closed-now client h = go (ltb client 4)
    where
      go : (b : Bool) → (b && (client_at (without_client s.engine client) client).opened) ≡ false
      go true = ap (λ (c : Client). c.opened) (none_there client h)
      go false = refl

  closed-kept : (client : ℕ) → (ring memory : List ℕ) → SameQueue s (mk_state (without_client s.engine client) ring memory)
  unfolding without_client
  closed-kept client ring memory = record { setup = refl; slots = refl; read_offset = refl; next_ticket = refl; staged = refl }

  closed : (client : ℕ) → first_refusal (refusal_table_of (close client) s) ≡ 0 → Closed client s (perform_call (close client) s).after
  closed client z =
      let a = close-allowed s.engine (length s.memory) client z in
      let p = window_placed s.engine (valid_facts s.engine a.ok) client a.owner in
      let w : Window = window (client_at s.engine client).window.start (client_at s.engine client).window.length in
      let fits : w.start + w.length ≤ length s.memory = omega (arith, p.fits, a.memory) in
      rw (allowed (close client) z)
      (record {
        free = closed-now client (open_place s.engine client a.owner).0;
        window_free = λ w some low high. window_freed s.engine S.sized (length s.memory) client a (given w) some low high;
        others = not-closed client;
        zeros = zero_in w s.memory fits;
        rest = (zero_local w 0).outside s.memory (omega arith, fits);
        size = (zero_local w 0).sized s.memory (omega arith, fits);
        ring = refl;
        queue = closed-kept client _ _;
        waits = close-waiting s.engine client;
      })

  queue : Queue s
  queue = record {
    sound = S.ok;
    opens = λ w z. (rw (allowed (opens w) z), opened w z);
    closes = λ client z. (rw (allowed (close client) z), closed client z);
    after_newest = write_newest s.engine (facts setup n s S) few;
    none_ready = write_first s.engine (facts setup n s S) few;
    submitted = submitted;
    begins = begins;
    continued = continued;
    finished = finished;
    cancelled = cancelled;
    taken = taken;
    free = free-room s.engine (facts setup n s S) few;
  }

pub promise : QueueHolds
promise setup ring A calls memory = queue setup (length ring) (final_state setup ring calls memory) (at-end setup ring A calls memory).sound
