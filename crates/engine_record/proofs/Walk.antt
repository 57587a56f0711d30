-- How the check goes through the ready batches: from the oldest on, all the rules of one batch at a time. It decides the rules.
use Rattle.std.proofs.Common.{◌≡◌, ℕ, zero, suc, ◌+◌, ◌-◌, ◌<◌, ◌≤◌, Bool, true, false, not, ◌&&◌, eqb, leb, List, length, get_or, refl, ap, ◌∙◌, ⊎_elim, arith, le-ltb, lt-ltb, eqb-true, le-leb, leb-true, Option}
use borrow.Author.Tests.{lt-leb, not-true}
use Rattle.word.proofs.Tests.{split, and-true}
use Rattle.ring.specs.Segment.{wrap_offset}
use Rattle.engine_record.specs.declared.Batch.{Batch}
use Rattle.engine_record.specs.declared.EngineRecord.{EngineRecord}
use Rattle.engine_record.specs.Setup.{bad_length}
use Rattle.engine_record.specs.Slots.{free, sum_over, total_length}
use Rattle.engine_record.specs.Tickets.{ticket_before, slot_of_ticket, is_ready_ticket, batch_in_state, batch_of_ticket, tickets_consecutive, in_ticket_order}
use Rattle.engine_record.specs.Clients.{is_open}
use Rattle.engine_record.specs.Rules.{end_to_end, lengths_allowed, clients_open}

-- the rules of one batch but its ticket
abbrev pub fits_in : (ring : ℕ) (opened : ℕ → Bool) (offset room : ℕ) → Batch → Bool
fits_in ring opened offset room b = eqb b.offset offset && not (bad_length ring b.length) && leb b.length room && opened b.client

-- the batches with the k tickets before the next one keep their rules, from `offset` on, in a room of so many bytes
unfoldable pub walk : (ring : ℕ) (opened : ℕ → Bool) (k next : ℕ) → List (Option Batch) → (offset room : ℕ) → Bool
walk ring opened zero next slots offset room = true
walk ring opened (suc k) next slots offset room =
    let b : Batch = batch_of_ticket (ticket_before next (suc k)) slots in
    is_ready_ticket (ticket_before next (suc k)) slots && eqb b.offset offset && not (bad_length ring b.length) && leb b.length room && opened b.client
    && walk ring opened k next slots (wrap_offset ring (offset + b.length)) (room - b.length)

-- ---- a turn

module _ (ring : ℕ) (opened : ℕ → Bool) (k next : ℕ) (slots : List (Option Batch)) (offset room : ℕ) (some : 0 < k) (i : ℕ) (at : i ≡ slot_of_ticket (ticket_before next k) slots) where
  pub walk-missing : length slots ≤ i → false ≡ walk ring opened k next slots offset room
  unfolding walk
  walk-missing h = go k some at
    where
      go : (k : ℕ) → 0 < k → i ≡ slot_of_ticket (ticket_before next k) slots → false ≡ walk ring opened k next slots offset room
      go zero q e = absurd (omega arith)
      go (suc k) q e = rw (← e, le-ltb i (length slots) h)

  module _ (h : i < length slots) (b : Batch) (is : b ≡ batch_in_state (get_or slots i free)) where
    walk-found : walk ring opened k next slots offset room ≡
        (fits_in ring opened offset room b && walk ring opened (k - 1) next slots (wrap_offset ring (offset + b.length)) (room - b.length))
    unfolding walk
    walk-found = go k some at
      where
        go : (k : ℕ) → 0 < k → i ≡ slot_of_ticket (ticket_before next k) slots → walk ring opened k next slots offset room ≡
            (fits_in ring opened offset room b && walk ring opened (k - 1) next slots (wrap_offset ring (offset + b.length)) (room - b.length))
        go zero q e = absurd (omega arith)
        go (suc k) q e =
            let less : suc k - 1 ≡ k = omega arith in
            rw (← e, lt-ltb i (length slots) h, ← is, less)

    pub walk_unfit : fits_in ring opened offset room b ≡ false → false ≡ walk ring opened k next slots offset room
    walk_unfit e = rw (walk-found, e)

    pub walk-next : fits_in ring opened offset room b ≡ true → (on : ℕ) → on ≡ wrap_offset ring (offset + b.length) →
        walk ring opened (k - 1) next slots on (room - b.length) ≡ walk ring opened k next slots offset room
    walk-next e on o = rw (walk-found, e, o)

pub walk-done : (ring : ℕ) (opened : ℕ → Bool) (k next : ℕ) (slots : List (Option Batch)) (offset room : ℕ) → k ≤ 0 → true ≡ walk ring opened k next slots offset room
unfolding walk
walk-done ring opened k next slots offset room h =
    let e : k ≡ 0 = omega arith in
    rw e

-- ---- what a batch that fits keeps

pub record Fitting (ring : ℕ) (opened : ℕ → Bool) (offset room : ℕ) (b : Batch) : Type 0 where
  pub at : b.offset ≡ offset
  pub allowed : bad_length ring b.length ≡ false
  pub within : b.length ≤ room
  pub owner : opened b.client ≡ true

pub fitting : (ring : ℕ) (opened : ℕ → Bool) (offset room : ℕ) (b : Batch) → fits_in ring opened offset room b ≡ true → Fitting ring opened offset room b
fitting ring opened offset room b e =
    let x = and-true (eqb b.offset offset && not (bad_length ring b.length) && leb b.length room) (opened b.client) e in
    let y = and-true (eqb b.offset offset && not (bad_length ring b.length)) (leb b.length room) x.0 in
    let z = and-true (eqb b.offset offset) (not (bad_length ring b.length)) y.0 in
    record {
      at = eqb-true _ _ z.0;
      allowed = not-true (bad_length ring b.length) z.1;
      within = leb-true _ _ y.1;
      owner = x.1;
    }

-- ---- the walk decides the rules

swap : (a b c d : Bool) → ((a && b) && (c && d)) ≡ ((a && c) && (b && d))
swap false b c d = refl
swap true true c d = refl
swap true false true d = refl
swap true false false d = refl

-- five rules of a first batch and the same of the rest, batch by batch and rule by rule
shuffle : (a b c d e p q r s t : Bool) →
    ((a && b && c && d && e) && (p && q && r && s && t)) ≡ ((a && p) && (b && q) && (c && r) && (d && s) && (e && t))
shuffle a b c d e p q r s t =
    swap (a && b && c && d) e (p && q && r && s) t
    ∙ ap (λ (x : Bool). x && (e && t)) (swap (a && b && c) d (p && q && r) s
    ∙ ap (λ (x : Bool). x && (d && s)) (swap (a && b) c (p && q) r
    ∙ ap (λ (x : Bool). x && (c && r)) (swap a b p q)))

leb_add : (x y n : ℕ) → leb (x + y) n ≡ (leb x n && leb y (n - x))
leb_add x y n = ⊎_elim over under (split n x)
  where
    over : n < x → leb (x + y) n ≡ (leb x n && leb y (n - x))
    over h = rw (lt-leb x n h, lt-leb (x + y) n (omega arith))

    under : x ≤ n → leb (x + y) n ≡ (leb x n && leb y (n - x))
    under h = ⊎_elim
        (λ (p : n < x + y). rw (le-leb x n h, lt-leb (x + y) n p, lt-leb y (n - x) (omega arith)))
        (λ (p : x + y ≤ n). rw (le-leb x n h, le-leb (x + y) n p, le-leb y (n - x) (omega arith)))
        (split n (x + y))

pub walk-rules : (engine : EngineRecord) (ring k next : ℕ) (slots : List (Option Batch)) (offset room : ℕ) →
    walk ring (is_open engine) k next slots offset room ≡
    (tickets_consecutive k next slots && end_to_end ring offset (in_ticket_order k next slots) && lengths_allowed ring (in_ticket_order k next slots)
    && leb (total_length (in_ticket_order k next slots)) room && clients_open engine (in_ticket_order k next slots))
unfolding walk tickets_consecutive in_ticket_order end_to_end lengths_allowed clients_open sum_over
walk-rules engine ring zero next slots offset room = rw (le-leb 0 room (omega arith))
walk-rules engine ring (suc k) next slots offset room =
    let b : Batch = batch_of_ticket (ticket_before next (suc k)) slots in
    let rest : List Batch = in_ticket_order k next slots in
    let on : ℕ = wrap_offset ring (offset + b.length) in
    rw (walk-rules engine ring k next slots on (room - b.length), leb_add b.length (total_length rest) room)
    (shuffle (is_ready_ticket (ticket_before next (suc k)) slots) (eqb b.offset offset) (not (bad_length ring b.length)) (leb b.length room) (is_open engine b.client)
    (tickets_consecutive k next slots) (end_to_end ring on rest) (lengths_allowed ring rest) (leb (total_length rest) (room - b.length)) (clients_open engine rest))
