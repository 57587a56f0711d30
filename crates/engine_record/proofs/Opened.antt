-- Laws of the open clients when one is opened or closed, or a count changes.
use Rattle.std.proofs.Common.{◌≡◌, ℕ, zero, suc, ◌+◌, ◌-◌, ◌≤◌, min, max, Bool, true, false, cond, not, ◌&&◌, ◌||◌, eqb, ltb, List, [], ◌∷◌, length, get_or, set, sym, refl, ap, ◌∙◌, ap₂, add-zero, arith, eq-eqb, ne_eqb, eqb-true}
use borrow.Author.Tests.{not-true}
use Rattle.word.proofs.Tests.{and-true, or_false}
use Rattle.range.specs.declared.Range.{Range}
use Rattle.range.specs.Range.{contained_in, overlaps}
use Rattle.engine_record.specs.declared.Setup.{Setup}
use Rattle.engine_record.specs.declared.Batch.{Batch}
use Rattle.engine_record.specs.declared.Client.{Client}
use Rattle.engine_record.specs.declared.Window.{Window}
use Rattle.engine_record.specs.declared.EngineRecord.{EngineRecord}
use Rattle.engine_record.specs.Slots.{sum_over, count_of}
use Rattle.engine_record.specs.Clients.{is_open, no_client, windows_of, window_range, prefix_range, overlaps_any, bad_window, windows_valid, pending_counts_match}
use Rattle.engine_record.specs.Rules.{clients_open}
use Rattle.engine_record.proofs.Clients.{shares_cons, valid-cons}

-- ---- windows

pub shared-sym : (r q : Range) → overlaps r q ≡ overlaps q r
shared-sym r q =
    let a : max r.start q.start ≡ max q.start r.start = omega arith in
    let b : min r.end q.end ≡ min q.end r.end = omega arith in
    ap₂ ltb a b

-- another count beside the same window
abbrev pub recounted : List Client → (k pending : ℕ) → List Client
recounted cs k pending = set cs k (record { window = (get_or cs k no_client).window; pending = pending; opened = (get_or cs k no_client).opened })

pub windows_set : (cs : List Client) (k : ℕ) (pending : ℕ) → windows_of (recounted cs k pending) ≡ windows_of cs
unfolding windows_of
windows_set [] k p = refl
windows_set (c ∷ cs) zero p = refl
windows_set (c ∷ cs) (suc k) p = ap (λ (ws : List Window). cond c.opened (c.window ∷ ws) ws) (windows_set cs k p)

-- the same clients are open
pub opened-set : (cs : List Client) (k : ℕ) (pending j : ℕ) → (get_or (recounted cs k pending) j no_client).opened ≡ (get_or cs j no_client).opened
opened-set [] k p j = refl
opened-set (c ∷ cs) zero p zero = refl
opened-set (c ∷ cs) zero p (suc j) = refl
opened-set (c ∷ cs) (suc k) p zero = refl
opened-set (c ∷ cs) (suc k) p (suc j) = opened-set cs k p j

-- an open client at a place leaves the others open, and any one leaves the others as they were
pub opened-more : (cs : List Client) (k j : ℕ) (new : Client) → new.opened ≡ true → (get_or cs j no_client).opened ≡ true → (get_or (set cs k new) j no_client).opened ≡ true
opened-more [] k j new n e = e
opened-more (c ∷ cs) zero zero new n e = n
opened-more (c ∷ cs) zero (suc j) new n e = e
opened-more (c ∷ cs) (suc k) zero new n e = e
opened-more (c ∷ cs) (suc k) (suc j) new n e = opened-more cs k j new n e

pub opened-other : (cs : List Client) (k j : ℕ) (new : Client) → ¬ (j ≡ k) → (get_or cs j no_client).opened ≡ true → (get_or (set cs k new) j no_client).opened ≡ true
opened-other [] k j new n e = e
opened-other (c ∷ cs) zero zero new n e = absurd (n refl)
opened-other (c ∷ cs) zero (suc j) new n e = e
opened-other (c ∷ cs) (suc k) zero new n e = e
opened-other (c ∷ cs) (suc k) (suc j) new n e = opened-other cs k j new (λ q. n (ap suc q)) e

-- another client at a place, one that is closed or apart from the bytes
shares_put : (bytes : Range) (cs : List Client) (k : ℕ) (new : Client) → overlaps_any bytes (windows_of cs) ≡ false → (new.opened && overlaps bytes (window_range new.window)) ≡ false →
    overlaps_any bytes (windows_of (set cs k new)) ≡ false
shares_put bytes [] k new e h = e
shares_put bytes (c ∷ cs) zero new e h =
    let both = or_false (c.opened && overlaps bytes (window_range c.window)) (overlaps_any bytes (windows_of cs)) (sym (shares_cons bytes c cs) ∙ e) in
    rw (shares_cons bytes new cs, h) both.1
shares_put bytes (c ∷ cs) (suc k) new e h =
    let both = or_false (c.opened && overlaps bytes (window_range c.window)) (overlaps_any bytes (windows_of cs)) (sym (shares_cons bytes c cs) ∙ e) in
    rw (shares_cons bytes c (set cs k new), both.0) (shares_put bytes cs k new both.1 h)

-- the tests behind a window that is not bad
pub record WindowGood (setup : Setup) (others : List Window) (w : Window) : Type 0 where
  pub alone : (eqb w.length 0 || not (contained_in (window_range w) (prefix_range setup.memory)) || overlaps (window_range w) (prefix_range setup.common)) ≡ false
  pub apart : overlaps_any (window_range w) others ≡ false

pub window-good : (setup : Setup) (others : List Window) (w : Window) → bad_window setup others w ≡ false → WindowGood setup others w
window-good setup others w e =
    let both = or_false (eqb w.length 0 || not (contained_in (window_range w) (prefix_range setup.memory)) || overlaps (window_range w) (prefix_range setup.common)) (overlaps_any (window_range w) others) e in
    record { alone = both.0; apart = both.1 }

-- another client at a place, one that is closed or whose window is good beside all of them
pub none_put : (setup : Setup) (cs : List Client) (k : ℕ) (new : Client) → windows_valid setup (windows_of cs) ≡ true → (new.opened && bad_window setup (windows_of cs) new.window) ≡ false →
    windows_valid setup (windows_of (set cs k new)) ≡ true
none_put setup [] k new e h = e
none_put setup (c ∷ cs) k new e h = place k (λ k r o. none_put setup cs k new r o)
  where
    rest : windows_valid setup (windows_of cs) ≡ true
    rest = (and-true (not (c.opened && bad_window setup (windows_of cs) c.window)) (windows_valid setup (windows_of cs)) (sym (valid-cons setup c cs) ∙ e)).1

    mine : (c.opened && bad_window setup (windows_of cs) c.window) ≡ false
    mine = not-true _ (and-true (not (c.opened && bad_window setup (windows_of cs) c.window)) (windows_valid setup (windows_of cs)) (sym (valid-cons setup c cs) ∙ e)).0

    -- the new one beside the first, and beside the others
    beside : bad_window setup (windows_of (c ∷ cs)) new.window ≡ false →
        ((c.opened && overlaps (window_range new.window) (window_range c.window)) ≡ false) × (bad_window setup (windows_of cs) new.window ≡ false)
    beside b =
        let good = window-good setup (windows_of (c ∷ cs)) new.window b in
        let both = or_false (c.opened && overlaps (window_range new.window) (window_range c.window)) (overlaps_any (window_range new.window) (windows_of cs)) (sym (shares_cons (window_range new.window) c cs) ∙ good.apart) in
        (both.0, rw good.alone both.1)

    others : (new.opened && bad_window setup (windows_of cs) new.window) ≡ false
    others = go new.opened refl
      where
        go : (t : Bool) → new.opened ≡ t → (new.opened && bad_window setup (windows_of cs) new.window) ≡ false
        go false q = rw q
        go true q = rw q (beside (rw q at h)).1

    -- the first one beside the new one
    first : (k : ℕ) → (c.opened && bad_window setup (windows_of (set cs k new)) c.window) ≡ false
    first k = go c.opened refl new.opened refl
      where
        go : (t : Bool) → c.opened ≡ t → (n : Bool) → new.opened ≡ n → (c.opened && bad_window setup (windows_of (set cs k new)) c.window) ≡ false
        go false q n p = rw q
        go true q n p =
            let good = window-good setup (windows_of cs) c.window (rw q at mine) in
            let meet : (n : Bool) → new.opened ≡ n → (new.opened && overlaps (window_range c.window) (window_range new.window)) ≡ false = apart q in
            rw (q, good.alone) (shares_put (window_range c.window) cs k new good.apart (meet n p))
          where
            apart : c.opened ≡ true → (n : Bool) → new.opened ≡ n → (new.opened && overlaps (window_range c.window) (window_range new.window)) ≡ false
            apart q false p = rw p
            apart q true p = rw p (shared-sym (window_range c.window) (window_range new.window) ∙ (rw q at (beside (rw p at h)).0))

    place : (k : ℕ) → ((k : ℕ) → windows_valid setup (windows_of cs) ≡ true → (new.opened && bad_window setup (windows_of cs) new.window) ≡ false → windows_valid setup (windows_of (set cs k new)) ≡ true) →
        windows_valid setup (windows_of (set (c ∷ cs) k new)) ≡ true
    place zero ih = rw (valid-cons setup new cs, others) rest
    place (suc k) ih = rw (valid-cons setup c (set cs k new), first k) (ih k rest others)

-- ---- owners

-- a record after it, in which the clients of the batches are open
pub open_more : (engine after : EngineRecord) (bs : List Batch) → ((k : ℕ) → is_open engine k ≡ true → is_open after k ≡ true) → clients_open engine bs ≡ true → clients_open after bs ≡ true
unfolding clients_open
open_more engine after [] h e = refl
open_more engine after (b ∷ bs) h e =
    let both = and-true (is_open engine b.client) (clients_open engine bs) e in
    rw (h b.client both.0) (open_more engine after bs h both.1)

-- a client that is not open has no batch
pub open_none : (engine : EngineRecord) (client : ℕ) (bs : List Batch) → is_open engine client ≡ false → clients_open engine bs ≡ true → count_of client bs ≡ 0
unfolding clients_open sum_over
open_none engine client [] h e = refl
open_none engine client (b ∷ bs) h e =
    let both = and-true (is_open engine b.client) (clients_open engine bs) e in
    let none = open_none engine client bs h both.1 in
    let other : ¬ (b.client ≡ client) = λ q. let z : is_open engine client ≡ true = rw (← q) both.0 in let n : ◌≡◌ {A = ℕ} 0 1 = cc in absurd (omega arith) in
    rw (ne_eqb b.client client other) (omega arith)

-- the others stay open when one that has no batch is closed
pub open_fewer : (engine after : EngineRecord) (client : ℕ) (bs : List Batch) → ((k : ℕ) → ¬ (k ≡ client) → is_open engine k ≡ true → is_open after k ≡ true) → count_of client bs ≡ 0 →
    clients_open engine bs ≡ true → clients_open after bs ≡ true
unfolding clients_open sum_over
open_fewer engine after client [] h n e = refl
open_fewer engine after client (b ∷ bs) h n e =
    let both = and-true (is_open engine b.client) (clients_open engine bs) e in
    let other : ¬ (b.client ≡ client) = λ q. let f : ◌≡◌ {A = ℕ} (cond (eqb b.client client) 1 0) 1 = rw (eq-eqb b.client client q) in omega arith in
    rw (h b.client other both.0) (open_fewer engine after client bs h (omega arith) both.1)

-- ---- counts

pub count_most : (client : ℕ) (bs : List Batch) → count_of client bs ≤ length bs
unfolding sum_over
count_most client [] = omega arith
count_most client (b ∷ bs) = go (eqb b.client client) (count_most client bs)
  where
    go : (t : Bool) → count_of client bs ≤ length bs → cond t 1 0 + count_of client bs ≤ suc (length bs)
    go true ih = omega arith
    go false ih = omega arith

-- the client is closed, or its count is that of its ready batches
abbrev counted : (id : ℕ) → Client → List Batch → Bool
counted id c bs = not c.opened || eqb c.pending (count_of id bs)

counted_is : (id : ℕ) (c : Client) (bs : List Batch) → c.opened ≡ true → counted id c bs ≡ true → c.pending ≡ count_of id bs
counted_is id c bs o e = eqb-true c.pending (count_of id bs) (rw o at e)

pub counts-at : (id k : ℕ) (cs : List Client) (bs : List Batch) → pending_counts_match id cs bs ≡ true → (get_or cs k no_client).opened ≡ true → (get_or cs k no_client).pending ≡ count_of (id + k) bs
unfolding pending_counts_match
counts-at id k [] bs e o = let z : ◌≡◌ {A = ℕ} 0 1 = cc in absurd (omega arith)
counts-at id zero (c ∷ cs) bs e o =
    counted_is id c bs o (and-true (counted id c bs) (pending_counts_match (suc id) cs bs) e).0 ∙ ap (λ (x : ℕ). count_of x bs) (sym (add-zero id))
counts-at id (suc k) (c ∷ cs) bs e o =
    counts-at (suc id) k cs bs (and-true (counted id c bs) (pending_counts_match (suc id) cs bs) e).1 o
    ∙ ap (λ (x : ℕ). count_of x bs) (omega arith)

-- another client at a place, one that is closed or whose count is right
pub counts_put : (id k : ℕ) (cs : List Client) (new : Client) (bs : List Batch) → pending_counts_match id cs bs ≡ true → counted (id + k) new bs ≡ true →
    pending_counts_match id (set cs k new) bs ≡ true
unfolding pending_counts_match
counts_put id k [] new bs e h = e
counts_put id zero (c ∷ cs) new bs e h =
    let z : counted id new bs ≡ true = rw (add-zero id) at h in
    rw z (and-true (counted id c bs) (pending_counts_match (suc id) cs bs) e).1
counts_put id (suc k) (c ∷ cs) new bs e h =
    let both = and-true (counted id c bs) (pending_counts_match (suc id) cs bs) e in
    let z : id + suc k ≡ suc id + k = omega arith in
    rw both.0 (counts_put (suc id) k cs new bs both.1 (rw z at h))

-- other batches with the same counts
pub counts_same : (id : ℕ) (cs : List Client) (bs after : List Batch) → ((j : ℕ) → id ≤ j → count_of j after ≡ count_of j bs) → pending_counts_match id cs bs ≡ true →
    pending_counts_match id cs after ≡ true
unfolding pending_counts_match
counts_same id [] bs after h e = refl
counts_same id (c ∷ cs) bs after h e =
    let both = and-true (counted id c bs) (pending_counts_match (suc id) cs bs) e in
    rw (h id (omega arith), both.0) (counts_same (suc id) cs bs after (λ j p. h j (omega arith)) both.1)

-- other batches, of which one client has so many
pub counts_changed : (id k : ℕ) (cs : List Client) (bs after : List Batch) (n : ℕ) → (get_or cs k no_client).opened ≡ true → n ≡ count_of (id + k) after →
    ((j : ℕ) → ¬ (id + k ≡ j) → count_of j after ≡ count_of j bs) → pending_counts_match id cs bs ≡ true → pending_counts_match id (recounted cs k n) after ≡ true
unfolding pending_counts_match
counts_changed id k [] bs after n o c h e = e
counts_changed id zero (c ∷ cs) bs after n o q h e =
    let both = and-true (counted id c bs) (pending_counts_match (suc id) cs bs) e in
    let z : n ≡ count_of id after = q ∙ ap (λ (x : ℕ). count_of x after) (add-zero id) in
    rw (o, eq-eqb n (count_of id after) z) (counts_same (suc id) cs bs after (λ j p. h j (λ u. omega arith)) both.1)
counts_changed id (suc k) (c ∷ cs) bs after n o q h e =
    let both = and-true (counted id c bs) (pending_counts_match (suc id) cs bs) e in
    let z : suc id + k ≡ id + suc k = omega arith in
    rw (h id (λ u. omega arith), both.0) (counts_changed (suc id) k cs bs after n o (rw z q) (rw z h) both.1)

-- one batch more of one client
pub counts_raised : (k : ℕ) (cs : List Client) (bs after : List Batch) → (get_or cs k no_client).opened ≡ true →
    ((j : ℕ) → count_of j after ≡ cond (eqb k j) 1 0 + count_of j bs) → pending_counts_match 0 cs bs ≡ true →
    pending_counts_match 0 (recounted cs k ((get_or cs k no_client).pending + 1)) after ≡ true
counts_raised k cs bs after o h e =
    let z : 0 + k ≡ k = omega arith in
    let old : (get_or cs k no_client).pending ≡ count_of k bs = rw z at (counts-at 0 k cs bs e o) in
    let one : count_of k after ≡ 1 + count_of k bs = h k ∙ rw (eq-eqb k k refl) in
    counts_changed 0 k cs bs after _ o (rw z (omega arith)) (λ j n. h j ∙ rw (ne_eqb k j (rw z at n)) (omega arith)) e

-- one batch fewer of one client
pub counts-lowered : (k : ℕ) (cs : List Client) (bs after : List Batch) → (get_or cs k no_client).opened ≡ true →
    ((j : ℕ) → count_of j bs ≡ cond (eqb k j) 1 0 + count_of j after) → pending_counts_match 0 cs bs ≡ true →
    pending_counts_match 0 (recounted cs k ((get_or cs k no_client).pending - 1)) after ≡ true
counts-lowered k cs bs after o h e =
    let z : 0 + k ≡ k = omega arith in
    let old : (get_or cs k no_client).pending ≡ count_of k bs = rw z at (counts-at 0 k cs bs e o) in
    let one : count_of k bs ≡ 1 + count_of k after = h k ∙ rw (eq-eqb k k refl) in
    counts_changed 0 k cs bs after _ o (rw z (omega arith)) (λ j n. let q : count_of j bs ≡ 0 + count_of j after = h j ∙ rw (ne_eqb k j (rw z at n)) in omega arith) e

-- no open client's count is over the number of ready batches
pub counts-small : (k : ℕ) (cs : List Client) (bs : List Batch) → pending_counts_match 0 cs bs ≡ true → (get_or cs k no_client).opened ≡ true → (get_or cs k no_client).pending ≤ length bs
counts-small k cs bs e o = omega (arith, counts-at 0 k cs bs e o, count_most (0 + k) bs)
