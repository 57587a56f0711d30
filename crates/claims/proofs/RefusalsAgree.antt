-- Engine and model refuse alike.
use mathlib.Core.Path.{◌≡◌, refl, sym, ap, ap₂, ◌∙◌}
use Rattle.engine_record.specs.Staged.{staged_by, missing_bytes}
use Rattle.model.specs.State.{is_open as isOpenM, staged_by as stagedByM, missing_bytes as missingBytesM, count_of}
use mathlib.Core.List.{List, [], ◌∷◌}
use mathlib.Core.Bool.{Bool, true, false, cond, ◌||◌, ◌&&◌, not}
use mathlib.Core.Logic.{⊎_elim}
use Prim.Native.Nat.{ℕ, ◌+◌, ◌≤◌, ◌<◌}
use native.Mathlib.Omega.{arith}
use lib.Dec.{ltb, leb, eqb}
use lib.ListN.{length}
use borrow.Author.Tests.{lt-ltb, le-ltb, le-leb, lt-leb, eqb-true, eqb-false, not-true}
use Rattle.word.proofs.Tests.{split, and-true}
use Rattle.range.specs.Range.{contained_in, overlaps}
use Rattle.engine_record.specs.declared.Setup.{Setup as Numbers}
use Rattle.engine_record.specs.declared.Window.{Window as Place}
use Rattle.engine_record.specs.Slots.{ready_batches, count_of as countIn}
use Rattle.engine_record.specs.Clients.{is_open, open_windows, window_range, prefix_range, overlaps_any, bad_window as badPlace, windows_valid}
use Rattle.engine_record.proofs.Windows.{placed, shared_tests, shared-first}
use Rattle.queue.specs.Refusals.{first_refusal, submit_table}
use Rattle.model.specs.Windows.{Window, window, overlap, overlap_any}
use Rattle.model.specs.Calls.{Setup, Call, opens, submit, run, pending, begin, piece, cancel, close}
use Rattle.model.specs.Refusals.{batch_rows, refusal_table, first_holding as firstRow, refusal}
use Rattle.claims.specs.Engine.{State}
use Rattle.claims.proofs.Cases.{given, number}
use Rattle.claims.proofs.Abstraction.{seen_windows, seen-length, places_windows}
use Rattle.claims.proofs.SimulationRelation.{numbers_in, abstraction, seen_staging, Sound, facts, open_like, slots-count, bytes_count, client-count, idle_like, by_like, slots_like, room_like, missing_like, staged_long}

-- ---- row 4

ends_like : (start end size : ℕ) → not (leb 0 start && leb end size) ≡ ltb size end
ends_like start end size = ⊎_elim
    (λ (p : size < end). rw (le-leb 0 start (omega arith), lt-leb end size p, lt-ltb size end p))
    (λ (p : end ≤ size). rw (le-leb 0 start (omega arith), le-leb end size p, le-ltb size end p))
    (split size end)

both_true : (a : Bool) → a ≡ (a && true)
both_true true = refl
both_true false = refl

common_like : (w : Window) (n : ℕ) → 0 < w.length → overlaps (window_range (given w)) (prefix_range n) ≡ overlap w (window 0 n)
common_like w n h =
    let z : 0 + n ≡ n = omega arith in
    shared-first (window_range (given w)) n (omega arith) ∙ rw (z, lt-ltb 0 (w.start + w.length) (omega arith)) (both_true (ltb w.start n))

-- sharing with one of the windows, where none is empty
shares_like : (numbers : Numbers) (w : Window) (ws : List Place) → 0 < w.length → windows_valid numbers ws ≡ true → overlaps_any (window_range (given w)) ws ≡ overlap_any w (seen_windows ws)
unfolding overlaps_any overlap_any seen_windows windows_valid
shares_like numbers w [] h e = refl
shares_like numbers w (v ∷ ws) h e =
    let both = and-true (not (badPlace numbers ws v)) (windows_valid numbers ws) e in
    let p = placed numbers ws v (not-true (badPlace numbers ws v) both.0) in
    ap₂ ◌||◌ (shared_tests (window_range (given w)) (window_range v) (omega arith) (omega arith)) (shares_like numbers w ws h both.1)

bad_like : (setup : Setup) (w : Window) (ws : List Place) → windows_valid (numbers_in setup) ws ≡ true →
    badPlace (numbers_in setup) ws (given w) ≡
    (eqb w.length 0 || ltb setup.memory (w.start + w.length) || overlap w (window 0 setup.common) || overlap_any w (seen_windows ws))
bad_like setup w ws e = go (eqb w.length 0) refl
  where
    go : (t : Bool) → eqb w.length 0 ≡ t →
        (t || not (contained_in (window_range (given w)) (prefix_range setup.memory)) || overlaps (window_range (given w)) (prefix_range setup.common) || overlaps_any (window_range (given w)) ws) ≡
        (t || ltb setup.memory (w.start + w.length) || overlap w (window 0 setup.common) || overlap_any w (seen_windows ws))
    go true f = refl
    go false f =
        let some : w.length ≡ 0 → ⊥ = eqb-false w.length 0 f in
        let h : 0 < w.length = omega arith in
        rw (ends_like w.start (w.start + w.length) setup.memory, common_like w setup.common h, shares_like (numbers_in setup) w ws h e)

-- ---- the tables

-- what a ring of another length would hold is not asked
past_ten : (t : Bool) (a b : ℕ) → (t ≡ true → a ≡ b) → cond (not t) 10 a ≡ cond (not t) 10 b
past_ten true a b h = h refl
past_ten false a b h = refl

-- a piece's rows below 11
piece-rows : (there own : Bool) (m m' size : ℕ) (t t' : Bool) → t ≡ t' → (t' ≡ true → m ≡ m') →
    ◌≡◌ {A = ℕ} (cond (not t) 10 (cond (not there) 5 (cond (not own || ltb m size) 14 0))) (cond (not t') 10 (cond (not there) 5 (cond (not own || ltb m' size) 14 0)))
piece-rows there own m m' size t t' e h =
    rw e (past_ten t' (cond (not there) 5 (cond (not own || ltb m size) 14 0)) (cond (not there) 5 (cond (not own || ltb m' size) 14 0))
    (λ q. ap (λ (x : ℕ). cond (not there) 5 (cond (not own || ltb x size) 14 0)) (h q)))

-- close's rows below 11
close-rows : (size m m' : ℕ) (there there' : Bool) (k k' : ℕ) (own own' : Bool) → m ≡ m' → there ≡ there' → k ≡ k' → own ≡ own' →
    ◌≡◌ {A = ℕ} (cond (not (eqb size m)) 10 (cond (not there) 5 (cond (ltb 0 k || own) 18 0))) (cond (not (eqb size m')) 10 (cond (not there') 5 (cond (ltb 0 k' || own') 18 0)))
close-rows size m m' there there' k k' own own' a b c d =
    ap (λ (x : ℕ). cond (not (eqb size x)) 10 (cond (not there) 5 (cond (ltb 0 k || own) 18 0))) a
    ∙ ap (λ (x : Bool). cond (not (eqb size m')) 10 (cond (not x) 5 (cond (ltb 0 k || own) 18 0))) b
    ∙ ap (λ (x : ℕ). cond (not (eqb size m')) 10 (cond (not there') 5 (cond (ltb 0 x || own) 18 0))) c
    ∙ ap (λ (x : Bool). cond (not (eqb size m')) 10 (cond (not there') 5 (cond (ltb 0 k' || x) 18 0))) d

module _ (setup : Setup) (n : ℕ) (s : State) (S : Sound setup n s) (accepted : ℕ) where
  open_alike : (w : Window) → number (opens w) s ≡ refusal setup n (abstraction accepted s) (opens w)
  unfolding first_refusal firstRow refusal_table
  open_alike w = rw (S.ok, places_windows s.engine.clients, seen-length (open_windows s.engine), S.numbers, bad_like setup w (open_windows s.engine) (rw S.numbers at (facts setup n s S).windows))

  -- submit and begin
  batch-alike : (client size : ℕ) → first_refusal (submit_table s.engine (length s.ring) client size) ≡ firstRow (batch_rows setup n (abstraction accepted s) client size)
  unfolding first_refusal firstRow
  batch-alike client size =
      rw (idle_like s.ring s.engine, slots_like s.ring s.engine, room_like s.ring s.engine, S.ok, S.long, S.numbers, open_like setup n s S client, slots-count setup n s S)
      (past_ten (eqb n setup.ring) _ _ (λ e. rw (bytes_count setup n s S (eqb-true n setup.ring e))))

  submit-alike : (client : ℕ) (bytes : List ℕ) → number (submit client bytes) s ≡ refusal setup n (abstraction accepted s) (submit client bytes)
  unfolding refusal_table
  submit-alike client bytes = batch-alike client (length bytes)

  begin-alike : (client total : ℕ) → number (begin client total) s ≡ refusal setup n (abstraction accepted s) (begin client total)
  unfolding refusal_table
  begin-alike client total = batch-alike client total

  piece-alike : (client : ℕ) (bytes : List ℕ) → number (piece client bytes) s ≡ refusal setup n (abstraction accepted s) (piece client bytes)
  unfolding first_refusal firstRow refusal_table
  piece-alike client bytes =
      rw (by_like s.ring s.engine client, S.ok, open_like setup n s S client)
      (piece-rows (is_open s.engine client) (staged_by s.engine.staged client) (missing_bytes s.engine.staged) (missingBytesM (seen_staging s.ring s.engine)) (length bytes)
      (eqb (length s.ring) s.engine.setup.ring) (eqb n setup.ring) (ap₂ eqb S.long (ap (λ (x : Numbers). x.ring) S.numbers))
      (λ e. sym (missing_like s.ring s.engine (staged_long setup n s S (eqb-true n setup.ring e)))))

  cancel-alike : (client : ℕ) → number (cancel client) s ≡ refusal setup n (abstraction accepted s) (cancel client)
  unfolding first_refusal firstRow refusal_table
  cancel-alike client = rw (S.ok, open_like setup n s S client, by_like s.ring s.engine client)

  close-alike : (client : ℕ) → number (close client) s ≡ refusal setup n (abstraction accepted s) (close client)
  unfolding first_refusal firstRow refusal_table
  close-alike client =
      rw S.ok
      (close-rows (length s.memory) s.engine.setup.memory setup.memory (is_open s.engine client) (isOpenM (abstraction accepted s) client)
      (countIn client (ready_batches s.engine.slots)) (count_of client (abstraction accepted s).waiting) (staged_by s.engine.staged client) (stagedByM (seen_staging s.ring s.engine) client)
      (ap (λ (x : Numbers). x.memory) S.numbers) (sym (open_like setup n s S client)) (sym (client-count setup n s S client)) (sym (by_like s.ring s.engine client)))

  run-alike : number run s ≡ refusal setup n (abstraction accepted s) run
  unfolding first_refusal firstRow refusal_table
  run-alike = rw (S.ok, S.long, S.numbers, slots-count setup n s S)

  pending-alike : (client : ℕ) → number (pending client) s ≡ refusal setup n (abstraction accepted s) (pending client)
  unfolding first_refusal firstRow refusal_table
  pending-alike client = rw (S.ok, open_like setup n s S client)

  pub alike : (c : Call) → number c s ≡ refusal setup n (abstraction accepted s) c
  alike (opens w) = open_alike w
  alike (submit client bytes) = submit-alike client bytes
  alike run = run-alike
  alike (pending client) = pending-alike client
  alike (begin client total) = begin-alike client total
  alike (piece client bytes) = piece-alike client bytes
  alike (cancel client) = cancel-alike client
  alike (close client) = close-alike client
