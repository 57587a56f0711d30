-- Laws of the open clients, one client at a time.
use Rattle.std.proofs.Common.{◌≡◌, ℕ, zero, suc, ◌+◌, ◌<◌, ◌≤◌, Bool, true, false, cond, not, ◌&&◌, ◌||◌, eqb, ltb, leb, List, [], ◌∷◌, length, get_or, drop, refl, ap, ◌∙◌, add-one, arith, drop_of_length-le, drop-cons, ltb-true, lt-ltb, le-leb, leb-false, leb-true, eq-eqb, ne_eqb}
use borrow.Author.Tests.{lt-leb}
use Rattle.word.proofs.Tests.{and-true}
use Rattle.range.specs.declared.Range.{Range}
use Rattle.range.specs.Range.{overlaps}
use Rattle.engine_record.specs.declared.Setup.{Setup}
use Rattle.engine_record.specs.declared.Batch.{Batch}
use Rattle.engine_record.specs.declared.Client.{Client}
use Rattle.engine_record.specs.declared.Window.{Window}
use Rattle.engine_record.specs.declared.EngineRecord.{EngineRecord}
use Rattle.engine_record.specs.Slots.{count_of}
use Rattle.engine_record.specs.Clients.{no_client, client_at, is_open, windows_of, lowest_closed, window_range, overlaps_any, bad_window, windows_valid, pending_counts_match}

-- ---- the first client and the others

pub shares_cons : (bytes : Range) (c : Client) (cs : List Client) →
    overlaps_any bytes (windows_of (c ∷ cs)) ≡ ((c.opened && overlaps bytes (window_range c.window)) || overlaps_any bytes (windows_of cs))
unfolding overlaps_any windows_of
shares_cons bytes c cs = go c.opened c.window (windows_of cs)
  where
    go : (t : Bool) (w : Window) (ws : List Window) → overlaps_any bytes (cond t (w ∷ ws) ws) ≡ ((t && overlaps bytes (window_range w)) || overlaps_any bytes ws)
    go true w ws = refl
    go false w ws = refl

pub valid-cons : (setup : Setup) (c : Client) (cs : List Client) →
    windows_valid setup (windows_of (c ∷ cs)) ≡ (not (c.opened && bad_window setup (windows_of cs) c.window) && windows_valid setup (windows_of cs))
unfolding windows_valid windows_of
valid-cons setup c cs = go c.opened c.window (windows_of cs)
  where
    go : (t : Bool) (w : Window) (ws : List Window) → windows_valid setup (cond t (w ∷ ws) ws) ≡ (not (t && bad_window setup ws w) && windows_valid setup ws)
    go true w ws = refl
    go false w ws = refl

module _ (setup : Setup) (rest : List Client) (c : Client) (cs : List Client) (is : rest ≡ c ∷ cs) where
  turn : windows_valid setup (windows_of rest) ≡ (not (c.opened && bad_window setup (windows_of cs) c.window) && windows_valid setup (windows_of cs))
  turn = rw is (valid-cons setup c cs)

  pub valid_bad : c.opened ≡ true → bad_window setup (windows_of cs) c.window ≡ true → false ≡ windows_valid setup (windows_of rest)
  valid_bad o e = rw (turn, o, e)

  pub valid_good : c.opened ≡ true → bad_window setup (windows_of cs) c.window ≡ false → windows_valid setup (windows_of cs) ≡ windows_valid setup (windows_of rest)
  valid_good o e = rw (turn, o, e)

  pub valid_closed : c.opened ≡ false → windows_valid setup (windows_of cs) ≡ windows_valid setup (windows_of rest)
  valid_closed o = rw (turn, o)

pub valid_none : (setup : Setup) (rest : List Client) → length rest ≡ 0 → true ≡ windows_valid setup (windows_of rest)
unfolding windows_valid windows_of
valid_none setup [] e = refl
valid_none setup (c ∷ cs) e = absurd (omega arith)

-- ---- a turn of each loop: its test, and what that says of the clients from place k on

module _ (cs : List Client) (k : ℕ) (h : k < length cs) where
  head_at : drop k cs ≡ get_or cs k no_client ∷ drop (k + 1) cs
  head_at = drop-cons cs k no_client h ∙ rw (add-one k)

  module _ (bytes other : Range) (is : other ≡ window_range (get_or cs k no_client).window) (t : Bool) (answered : t ≡ overlaps bytes other) where
    shares_step : overlaps_any bytes (windows_of (drop k cs)) ≡ (((get_or cs k no_client).opened && t) || overlaps_any bytes (windows_of (drop (k + 1) cs)))
    shares_step = ap (λ (x : List Client). overlaps_any bytes (windows_of x)) head_at ∙ shares_cons bytes (get_or cs k no_client) (drop (k + 1) cs) ∙ rw (answered, is)

    pub shares_found : ((get_or cs k no_client).opened && t) ≡ true → true ≡ overlaps_any bytes (windows_of (drop k cs))
    shares_found e = rw (shares_step, e)

    pub shares_next : ((get_or cs k no_client).opened && t) ≡ false → overlaps_any bytes (windows_of (drop (k + 1) cs)) ≡ overlaps_any bytes (windows_of (drop k cs))
    shares_next e = rw (shares_step, e)

  pub counts_step : (bs : List Batch) → let c = get_or cs k no_client in
      pending_counts_match k (drop k cs) bs ≡ ((not c.opened || eqb c.pending (count_of k bs)) && pending_counts_match (k + 1) (drop (k + 1) cs) bs)
  unfolding pending_counts_match
  counts_step bs = rw (head_at, add-one k)

  module _ (bs : List Batch) where
    pub counts_wrong : (get_or cs k no_client).opened ≡ true → ((get_or cs k no_client).pending ≡ count_of k bs → ⊥) → false ≡ pending_counts_match k (drop k cs) bs
    counts_wrong o e = rw (counts_step bs, o, ne_eqb _ _ e)

    pub counts_right : (get_or cs k no_client).opened ≡ true → (get_or cs k no_client).pending ≡ count_of k bs →
        pending_counts_match (k + 1) (drop (k + 1) cs) bs ≡ pending_counts_match k (drop k cs) bs
    counts_right o e = rw (counts_step bs, o, eq-eqb _ _ e)

    pub counts_closed : (get_or cs k no_client).opened ≡ false → pending_counts_match (k + 1) (drop (k + 1) cs) bs ≡ pending_counts_match k (drop k cs) bs
    counts_closed o = rw (counts_step bs, o)

  closed_step : lowest_closed (drop k cs) ≡ cond (get_or cs k no_client).opened (suc (lowest_closed (drop (k + 1) cs))) 0
  unfolding lowest_closed
  closed_step = rw head_at

  pub closed_here : (get_or cs k no_client).opened ≡ false → lowest_closed (drop k cs) ≡ 0
  closed_here e = rw (closed_step, e)

  pub closed_later : (get_or cs k no_client).opened ≡ true → lowest_closed (drop k cs) ≡ suc (lowest_closed (drop (k + 1) cs))
  closed_later e = rw (closed_step, e)

module _ (cs : List Client) (k : ℕ) (h : length cs ≤ k) where
  past : drop k cs ≡ []
  past = drop_of_length-le cs {i = k} h

  pub overlaps-end : (bytes : Range) → overlaps_any bytes (windows_of (drop k cs)) ≡ false
  unfolding overlaps_any windows_of
  overlaps-end bytes = rw past

  pub counts_end : (bs : List Batch) → pending_counts_match k (drop k cs) bs ≡ true
  unfolding pending_counts_match
  counts_end bs = rw past

  pub closed-end : lowest_closed (drop k cs) ≡ 0
  unfolding lowest_closed
  closed-end = rw past

-- ---- places

-- past the last place there is no client
pub closed-past : (cs : List Client) (k : ℕ) → length cs ≤ k → false ≡ (get_or cs k no_client).opened
closed-past [] k h = refl
closed-past (c ∷ cs) zero h = absurd (omega arith)
closed-past (c ∷ cs) (suc k) h = closed-past cs k (omega arith)

-- an open client's id, and its place
pub open_place : (engine : EngineRecord) (k : ℕ) → is_open engine k ≡ true → (k < 4) × ((client_at engine k).opened ≡ true)
open_place engine k e =
    let both = and-true (ltb k 4) (client_at engine k).opened e in
    (ltb-true k 4 both.0, both.1)

pub place_open : (engine : EngineRecord) (k : ℕ) → k < 4 → (client_at engine k).opened ≡ true → is_open engine k ≡ true
place_open engine k h e = rw (lt-ltb k 4 h, e)

-- ---- the lowest place that is closed

pub windows_most : (cs : List Client) → length (windows_of cs) ≤ length cs
unfolding windows_of
windows_most [] = omega arith
windows_most (c ∷ cs) = go c.opened (windows_most cs)
  where
    go : (t : Bool) → length (windows_of cs) ≤ length cs → length (cond t (c.window ∷ windows_of cs) (windows_of cs)) ≤ suc (length cs)
    go true h = omega arith
    go false h = omega arith

-- all places are open exactly if it lies past them
pub closed-below : (cs : List Client) → length (windows_of cs) < length cs → lowest_closed cs < length cs
unfolding windows_of lowest_closed
closed-below [] h = h
closed-below (c ∷ cs) h = go c.opened h (closed-below cs)
  where
    go : (t : Bool) → length (cond t (c.window ∷ windows_of cs) (windows_of cs)) < suc (length cs) → (length (windows_of cs) < length cs → lowest_closed cs < length cs) →
        cond t (suc (lowest_closed cs)) 0 < suc (length cs)
    go true h ih = let l = ih (omega arith) in omega arith
    go false h ih = omega arith

closed_most : (cs : List Client) → lowest_closed cs ≤ length (windows_of cs)
unfolding windows_of lowest_closed
closed_most [] = omega arith
closed_most (c ∷ cs) = go c.opened (closed_most cs)
  where
    go : (t : Bool) → lowest_closed cs ≤ length (windows_of cs) → cond t (suc (lowest_closed cs)) 0 ≤ length (cond t (c.window ∷ windows_of cs) (windows_of cs))
    go true h = omega arith
    go false h = omega arith

pub closed_is : (cs : List Client) → (get_or cs (lowest_closed cs) no_client).opened ≡ false
unfolding lowest_closed
closed_is [] = refl
closed_is (c ∷ cs) = go c.opened refl (closed_is cs)
  where
    go : (t : Bool) → c.opened ≡ t → (get_or cs (lowest_closed cs) no_client).opened ≡ false → (get_or (c ∷ cs) (cond c.opened (suc (lowest_closed cs)) 0) no_client).opened ≡ false
    go true e ih = rw e ih
    go false e ih = ap (λ (n : ℕ). (get_or (c ∷ cs) n no_client).opened) (ap (λ (t : Bool). cond t (suc (lowest_closed cs)) 0) e) ∙ e

closed_full-places : (cs : List Client) → length cs ≤ length (windows_of cs) → length cs ≤ lowest_closed cs
unfolding windows_of lowest_closed
closed_full-places [] h = omega arith
closed_full-places (c ∷ cs) h = go c.opened h (closed_full-places cs)
  where
    go : (t : Bool) → suc (length cs) ≤ length (cond t (c.window ∷ windows_of cs) (windows_of cs)) → (length cs ≤ length (windows_of cs) → length cs ≤ lowest_closed cs) →
        suc (length cs) ≤ cond t (suc (lowest_closed cs)) 0
    go true h ih = let l = ih (omega arith) in omega arith
    go false h ih = absurd (omega (arith, windows_most cs))

-- every place below it is open
pub closed_least : (cs : List Client) (k : ℕ) → k < lowest_closed cs → (get_or cs k no_client).opened ≡ true
unfolding lowest_closed
closed_least [] k h = absurd (omega arith)
closed_least (c ∷ cs) k h = go c.opened refl k h (closed_least cs)
  where
    go : (t : Bool) → c.opened ≡ t → (k : ℕ) → k < cond c.opened (suc (lowest_closed cs)) 0 → ((k : ℕ) → k < lowest_closed cs → (get_or cs k no_client).opened ≡ true) → (get_or (c ∷ cs) k no_client).opened ≡ true
    go false e k h ih = absurd (let l = rw e at h in omega arith)
    go true e zero h ih = e
    go true e (suc k) h ih = ih k (let l = rw e at h in omega arith)

-- row 3 by it
pub closed_full : (cs : List Client) → length cs ≡ 4 → leb 4 (lowest_closed cs) ≡ leb 4 (length (windows_of cs))
closed_full cs four = go (leb 4 (length (windows_of cs))) refl
  where
    go : (t : Bool) → leb 4 (length (windows_of cs)) ≡ t → leb 4 (lowest_closed cs) ≡ t
    go true e = le-leb 4 (lowest_closed cs) (let l = closed_full-places cs (omega (arith, leb-true 4 (length (windows_of cs)) e)) in omega arith)
    go false e = lt-leb 4 (lowest_closed cs) (omega (arith, leb-false 4 (length (windows_of cs)) e, closed_most cs))
