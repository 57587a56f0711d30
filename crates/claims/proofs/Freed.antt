-- A client is closed: its window is free, so that one inside it may be opened.
use mathlib.Core.Path.{◌≡◌, refl, ap, sym, ◌∙◌}
use mathlib.Core.Bool.{Bool, true, false, cond, ◌&&◌, false≢true}
use mathlib.Core.List.{List, [], ◌∷◌}
use mathlib.Core.Logic.{⊎_elim}
use Prim.Native.Nat.{ℕ, zero, suc, ◌+◌, ◌≤◌, ◌<◌, min, max}
use native.Mathlib.Omega.{arith}
use lib.ListN.{length, get_or, set, length-set}
use lib.Seq.{get_or-set_same, get_or-set_other}
use borrow.Author.Tests.{ltb-false, le-ltb, lt-leb, le-leb, ne_eqb}
use Rattle.word.proofs.Tests.{split}
use Rattle.range.specs.declared.Range.{Range}
use Rattle.range.specs.Range.{overlaps}
use Rattle.engine_record.specs.declared.EngineRecord.{EngineRecord}
use Rattle.engine_record.specs.declared.Client.{Client}
use Rattle.engine_record.specs.declared.Window.{Window}
use Rattle.engine_record.specs.Clients.{no_client, client_at, is_open, windows_of, window_range, overlaps_any, bad_window}
use Rattle.engine_record.proofs.Clients.{shares_cons, windows_most, open_place, place_open, closed-past}
use Rattle.engine_record.proofs.Opened.{shared-sym}
use Rattle.engine_record.proofs.Windows.{window_placed, windows_apart}
use Rattle.engine_record.proofs.Rules.{valid_facts}
use Rattle.queue.specs.Refusals.{first_refusal, open_table}
use Rattle.queue.specs.Calls.{without_client}
use Rattle.queue.proofs.Refusals.{CloseAllowed}
use Rattle.queue.proofs.Validity.{Sized, close-valid}

-- a closed place leaves fewer windows than places
closed_fewer : (cs : List Client) (k : ℕ) → k < length cs → (get_or cs k no_client).opened ≡ false → length (windows_of cs) < length cs
unfolding windows_of
closed_fewer [] k h e = absurd (omega arith)
closed_fewer (c ∷ cs) zero h e = rw e (omega (arith, windows_most cs))
closed_fewer (c ∷ cs) (suc k) h e = go c.opened (closed_fewer cs k (omega arith) e)
  where
    go : (t : Bool) → length (windows_of cs) < length cs → length (cond t (c.window ∷ windows_of cs) (windows_of cs)) < suc (length cs)
    go true h = omega arith
    go false h = omega arith

-- bytes that are apart from each open window
all_apart : (bytes : Range) (cs : List Client) → ((k : ℕ) → (get_or cs k no_client).opened ≡ true → overlaps bytes (window_range (get_or cs k no_client).window) ≡ false) →
    overlaps_any bytes (windows_of cs) ≡ false
unfolding overlaps_any windows_of
all_apart bytes [] h = refl
all_apart bytes (c ∷ cs) h = shares_cons bytes c cs ∙ rw (first c.opened refl) (all_apart bytes cs (λ k. h (suc k)))
  where
    first : (t : Bool) → c.opened ≡ t → (c.opened && overlaps bytes (window_range c.window)) ≡ false
    first true e = rw e (h zero e)
    first false e = rw e

inside-apart : (v w : Window) (q : Range) → v.start ≤ w.start → w.start + w.length ≤ v.start + v.length → overlaps (window_range v) q ≡ false → overlaps (window_range w) q ≡ false
inside-apart v w q low high e =
    let h = ltb-false (max v.start q.start) (min (v.start + v.length) q.end) e in
    le-ltb (max w.start q.start) (min (w.start + w.length) q.end) (omega arith)

module _ (engine : EngineRecord) (sized : Sized engine) (lent client : ℕ) (a : CloseAllowed engine lent client) (w : Window) (some : 0 < w.length)
    (low : (client_at engine client).window.start ≤ w.start) (high : w.start + w.length ≤ (client_at engine client).window.start + (client_at engine client).window.length) where
  place : client < 4
  place = (open_place engine client a.owner).0

  left : List Client
  left = set engine.clients client no_client

  left-closed : (get_or left client no_client).opened ≡ false
  unfolding left
  left-closed = ap (λ (c : Client). c.opened) (get_or-set_same engine.clients client no_client no_client (omega (arith, place, sized.clients)))

  few : length (windows_of left) < 4
  unfolding left
  few =
      let long : length (set engine.clients client no_client) ≡ 4 = length-set engine.clients client no_client ∙ sized.clients in
      omega (arith, long, closed_fewer left client (omega (arith, long, place)) left-closed)

  -- every other client that is open has a window apart from the freed one
  other-apart : (k : ℕ) → ¬ (k ≡ client) → is_open engine k ≡ true → overlaps (window_range (client_at engine client).window) (window_range (client_at engine k).window) ≡ false
  other-apart k n o = ⊎_elim before behind (split k client)
    where
      before : k < client → overlaps (window_range (client_at engine client).window) (window_range (client_at engine k).window) ≡ false
      before h = shared-sym (window_range (client_at engine client).window) (window_range (client_at engine k).window) ∙ windows_apart engine (valid_facts engine a.ok) k client h o a.owner

      behind : client ≤ k → overlaps (window_range (client_at engine client).window) (window_range (client_at engine k).window) ≡ false
      behind h = windows_apart engine (valid_facts engine a.ok) client k (omega arith) a.owner o

  below-four : (k : ℕ) → (client_at engine k).opened ≡ true → k < 4
  below-four k e = ⊎_elim (λ (h : k < 4). h) (λ (h : 4 ≤ k). absurd (false≢true (closed-past engine.clients k (omega (arith, sized.clients)) ∙ e))) (split k 4)

  each-apart : (k : ℕ) → (get_or left k no_client).opened ≡ true → overlaps (window_range w) (window_range (get_or left k no_client).window) ≡ false
  unfolding left
  each-apart k e = ⊎_elim (λ (h : k < client). other k (λ z. omega arith) e) (λ (h : client ≤ k). ⊎_elim (same k h e) (λ (l : client + 1 ≤ k). other k (λ z. omega arith) e) (split k (client + 1))) (split k client)
    where
      other : (k : ℕ) → ¬ (k ≡ client) → (get_or left k no_client).opened ≡ true → overlaps (window_range w) (window_range (get_or left k no_client).window) ≡ false
      other k n e =
          let is : get_or left k no_client ≡ client_at engine k = get_or-set_other engine.clients client k no_client no_client n in
          let o : (client_at engine k).opened ≡ true = ap (λ (c : Client). c.opened) (sym is) ∙ e in
          rw is (inside-apart (client_at engine client).window w (window_range (client_at engine k).window) low high (other-apart k n (place_open engine k (below-four k o) o)))

      same : (k : ℕ) → client ≤ k → (get_or left k no_client).opened ≡ true → k < client + 1 → overlaps (window_range w) (window_range (get_or left k no_client).window) ≡ false
      same k h e l =
          let is : k ≡ client = omega arith in
          absurd (false≢true (sym left-closed ∙ ap (λ (j : ℕ). (get_or left j no_client).opened) (sym is) ∙ e))

  good : bad_window engine.setup (windows_of left) w ≡ false
  good =
      let p = window_placed engine (valid_facts engine a.ok) client a.owner in
      rw (
        ne_eqb w.length 0 (λ z. omega arith),
        le-leb 0 w.start (omega arith),
        le-leb (w.start + w.length) engine.setup.memory (omega (arith, p.fits)),
        le-ltb (max w.start 0) (min (w.start + w.length) engine.setup.common) (omega (arith, p.past)),
      )
      (all_apart (window_range w) left each-apart)

  pub window_freed : first_refusal (open_table (without_client engine client) w) ≡ 0
  unfolding first_refusal without_client left
  window_freed = rw (close-valid engine client sized lent a, lt-leb 4 (length (windows_of left)) few, good)
