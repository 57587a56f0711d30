-- What row 4 says of the windows of a valid record: inside memory, past the common area, and apart from each other.
use Rattle.std.proofs.Common.{◌≡◌, ℕ, zero, suc, ◌+◌, ◌<◌, ◌≤◌, min, max, true, false, not, ◌&&◌, ◌||◌, eqb, ltb, List, [], ◌∷◌, get_or, sym, ◌∙◌, ⊎_elim, arith, ltb-false, le-ltb, lt-ltb}
use borrow.Author.Tests.{eqb-false, not-true, not-false}
use Rattle.word.proofs.Tests.{split, and-true, or_false}
use Rattle.range.specs.declared.Range.{Range}
use Rattle.range.specs.Range.{contained_in, overlaps}
use Rattle.range.proofs.Laws.{inside-ends}
use Rattle.engine_record.specs.declared.Setup.{Setup}
use Rattle.engine_record.specs.declared.Window.{Window}
use Rattle.engine_record.specs.declared.Client.{Client}
use Rattle.engine_record.specs.declared.EngineRecord.{EngineRecord}
use Rattle.engine_record.specs.Clients.{no_client, client_at, is_open, windows_of, window_range, prefix_range, overlaps_any, bad_window, windows_valid}
use Rattle.engine_record.proofs.Clients.{shares_cons, valid-cons, open_place}
use Rattle.engine_record.proofs.Opened.{window-good}
use Rattle.engine_record.proofs.Rules.{Valid}

pub record Placed (setup : Setup) (w : Window) : Type 0 where
  pub filled : 0 < w.length
  pub fits : w.start + w.length ≤ setup.memory
  pub past : setup.common ≤ w.start

pub placed : (setup : Setup) (others : List Window) (w : Window) → bad_window setup others w ≡ false → Placed setup w
placed setup others w e =
    let good = window-good setup others w e in
    let x = or_false (eqb w.length 0 || not (contained_in (window_range w) (prefix_range setup.memory))) (overlaps (window_range w) (prefix_range setup.common)) good.alone in
    let y = or_false (eqb w.length 0) (not (contained_in (window_range w) (prefix_range setup.memory))) x.0 in
    let some : w.length ≡ 0 → ⊥ = eqb-false w.length 0 y.0 in
    let ends = inside-ends (window_range w) (prefix_range setup.memory) (not-false (contained_in (window_range w) (prefix_range setup.memory)) y.1) in
    let clear = ltb-false (max w.start 0) (min (w.start + w.length) setup.common) x.1 in
    record { filled = omega arith; fits = ends.1; past = omega arith }

module _ (setup : Setup) where
  both-valid : (c : Client) (cs : List Client) → windows_valid setup (windows_of (c ∷ cs)) ≡ true →
      (not (c.opened && bad_window setup (windows_of cs) c.window) ≡ true) × (windows_valid setup (windows_of cs) ≡ true)
  both-valid c cs e = and-true (not (c.opened && bad_window setup (windows_of cs) c.window)) (windows_valid setup (windows_of cs)) (sym (valid-cons setup c cs) ∙ e)

  none_placed : (k : ℕ) (cs : List Client) → windows_valid setup (windows_of cs) ≡ true → (get_or cs k no_client).opened ≡ true → Placed setup (get_or cs k no_client).window
  none_placed k [] e o = let z : ◌≡◌ {A = ℕ} 0 1 = cc in absurd (omega arith)
  none_placed zero (c ∷ cs) e o = placed setup (windows_of cs) c.window (not-true _ (rw o at (both-valid c cs e).0))
  none_placed (suc k) (c ∷ cs) e o = none_placed k cs (both-valid c cs e).1 o

  both-apart : (bytes : Range) (c : Client) (cs : List Client) → overlaps_any bytes (windows_of (c ∷ cs)) ≡ false →
      ((c.opened && overlaps bytes (window_range c.window)) ≡ false) × (overlaps_any bytes (windows_of cs) ≡ false)
  both-apart bytes c cs e = or_false (c.opened && overlaps bytes (window_range c.window)) (overlaps_any bytes (windows_of cs)) (sym (shares_cons bytes c cs) ∙ e)

  shares_at : (bytes : Range) (k : ℕ) (cs : List Client) → overlaps_any bytes (windows_of cs) ≡ false → (get_or cs k no_client).opened ≡ true →
      overlaps bytes (window_range (get_or cs k no_client).window) ≡ false
  shares_at bytes k [] e o = let z : ◌≡◌ {A = ℕ} 0 1 = cc in absurd (omega arith)
  shares_at bytes zero (c ∷ cs) e o = rw o at (both-apart bytes c cs e).0
  shares_at bytes (suc k) (c ∷ cs) e o = shares_at bytes k cs (both-apart bytes c cs e).1 o

  none_apart : (j k : ℕ) (cs : List Client) → windows_valid setup (windows_of cs) ≡ true → j < k → (get_or cs j no_client).opened ≡ true → (get_or cs k no_client).opened ≡ true →
      overlaps (window_range (get_or cs j no_client).window) (window_range (get_or cs k no_client).window) ≡ false
  none_apart j k [] e h o p = let z : ◌≡◌ {A = ℕ} 0 1 = cc in absurd (omega arith)
  none_apart zero zero (c ∷ cs) e h o p = absurd (omega arith)
  none_apart (suc j) zero (c ∷ cs) e h o p = absurd (omega arith)
  none_apart zero (suc k) (c ∷ cs) e h o p =
      let good = window-good setup (windows_of cs) c.window (not-true _ (rw o at (both-valid c cs e).0)) in
      shares_at (window_range c.window) k cs good.apart p
  none_apart (suc j) (suc k) (c ∷ cs) e h o p = none_apart j k cs (both-valid c cs e).1 (omega arith) o p

module _ (engine : EngineRecord) (v : Valid engine) where
  pub window_placed : (client : ℕ) → is_open engine client ≡ true → Placed engine.setup (client_at engine client).window
  window_placed client o = none_placed engine.setup client engine.clients v.windows (open_place engine client o).1

  pub windows_apart : (j k : ℕ) → j < k → is_open engine j ≡ true → is_open engine k ≡ true → overlaps (window_range (client_at engine j).window) (window_range (client_at engine k).window) ≡ false
  windows_apart j k h o p = none_apart engine.setup j k engine.clients v.windows h (open_place engine j o).1 (open_place engine k p).1

-- ---- sharing as two comparisons, where neither run is empty

pub shared_tests : (r q : Range) → r.start < r.end → q.start < q.end → overlaps r q ≡ (ltb r.start q.end && ltb q.start r.end)
shared_tests r q h k = ⊎_elim before behind (split r.start q.end)
  where
    before : r.start < q.end → overlaps r q ≡ (ltb r.start q.end && ltb q.start r.end)
    before p = ⊎_elim
        (λ (l : q.start < r.end). rw (lt-ltb r.start q.end p, lt-ltb q.start r.end l) (lt-ltb (max r.start q.start) (min r.end q.end) (omega arith)))
        (λ (l : r.end ≤ q.start). rw (lt-ltb r.start q.end p, le-ltb q.start r.end l) (le-ltb (max r.start q.start) (min r.end q.end) (omega arith)))
        (split q.start r.end)

    behind : q.end ≤ r.start → overlaps r q ≡ (ltb r.start q.end && ltb q.start r.end)
    behind p = rw (le-ltb r.start q.end p) (le-ltb (max r.start q.start) (min r.end q.end) (omega arith))

-- of the first n bytes, be there any or not
pub shared-first : (r : Range) (n : ℕ) → r.start < r.end → overlaps r (prefix_range n) ≡ ltb r.start n
shared-first r n h = ⊎_elim
    (λ (p : r.start < n). rw (lt-ltb r.start n p) (lt-ltb (max r.start 0) (min r.end n) (omega arith)))
    (λ (p : n ≤ r.start). rw (le-ltb r.start n p) (le-ltb (max r.start 0) (min r.end n) (omega arith)))
    (split r.start n)
