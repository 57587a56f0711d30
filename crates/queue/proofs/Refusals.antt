-- What it says of a call that no row of its table holds.
use Rattle.std.proofs.Common.{◌≡◌, ℕ, ◌+◌, ◌<◌, ◌≤◌, Bool, true, false, cond, not, eqb, ltb, List, [], ◌∷◌, length, Result, Ok, Err, refl, arith, ltb-false, eqb-true, leb-false}
use borrow.Author.Tests.{not-false}
use Rattle.engine_record.specs.declared.Setup.{Setup}
use Rattle.engine_record.specs.declared.Window.{Window}
use Rattle.engine_record.specs.declared.EngineRecord.{EngineRecord}
use Rattle.engine_record.specs.Setup.{bad_ring, bad_memory, bad_length}
use Rattle.engine_record.specs.Slots.{ready_batches, count_of}
use Rattle.engine_record.specs.Clients.{is_open, open_windows, bad_window}
use Rattle.engine_record.specs.Staged.{no_staged, is_idle, staged_by, missing_bytes}
use Rattle.engine_record.specs.Queue.{ready_slots, taken_slots, free_bytes}
use Rattle.engine_record.specs.Rules.{valid}
use Rattle.engine_record.proofs.Rules.{valid_facts}
use Rattle.engine_record.proofs.Unfinished.{Unfinished, staged-idle, staged_open}
use Rattle.word.proofs.Tests.{or_false}
use Rattle.queue.specs.declared.Refusal.{Refusal}
use Rattle.queue.specs.declared.Refusal.TheVariants.{BadRing, BadMemory, NoPlace, BadWindow, NotOpen, BadLength, NoSlot, NoRoom, NothingToRun, OtherLength, BadRecord, OneStaged, NotStaged, NotIdle}
use Rattle.queue.specs.Answers.{number_of, refusal_numbered, refusal_number_of}
use Rattle.queue.specs.Refusals.{RefusalRow, ◌when◌, first_refusal, set_up_table, open_table, submit_table, piece_table, cancel_table, close_table, pending_table}

-- ---- refusals and their numbers

positive : (r : Refusal) → 0 < number_of r
positive BadRing = omega arith
positive BadMemory = omega arith
positive NoPlace = omega arith
positive BadWindow = omega arith
positive NotOpen = omega arith
positive BadLength = omega arith
positive NoSlot = omega arith
positive NoRoom = omega arith
positive NothingToRun = omega arith
positive OtherLength = omega arith
positive BadRecord = omega arith
positive OneStaged = omega arith
positive NotStaged = omega arith
positive NotIdle = omega arith

pub not_zero : (r : Refusal) (n : ℕ) → n ≡ number_of r → n ≡ 0 → ⊥
not_zero r n e z = let p = positive r in omega arith

pub numbered : (r : Refusal) → refusal_numbered (number_of r) ≡ r
unfolding refusal_numbered
numbered BadRing = refl
numbered BadMemory = refl
numbered NoPlace = refl
numbered BadWindow = refl
numbered NotOpen = refl
numbered BadLength = refl
numbered NoSlot = refl
numbered NoRoom = refl
numbered NothingToRun = refl
numbered OtherLength = refl
numbered BadRecord = refl
numbered OneStaged = refl
numbered NotStaged = refl
numbered NotIdle = refl

-- a number that is 0 or a refusal's
abbrev pub Known : ℕ → Type 0
Known n = (n ≡ 0 → ⊥) → number_of (refusal_numbered n) ≡ n

abbrev pub AllKnown : List RefusalRow → Type 0
AllKnown [] = Unit {0}
AllKnown ((n when t) ∷ rows) = (number_of (refusal_numbered n) ≡ n) × AllKnown rows

pub known : (rows : List RefusalRow) → AllKnown rows → Known (first_refusal rows)
unfolding first_refusal
known [] k z = absurd (z refl)
known ((n when true) ∷ rows) k z = k.0
known ((n when false) ∷ rows) k z = known rows k.1 z

-- what the code was not refused with
pub accepted : (d : Result (Unit {0}) Refusal) → ((r : Refusal) → d ≡ Err r → ⊥) → refusal_number_of d ≡ 0
accepted (Ok u) h = refl
accepted (Err r) h = absurd (h r refl)

-- each table's

pub set-up-known : (setup : Setup) → Known (first_refusal (set_up_table setup))
unfolding refusal_numbered
set-up-known setup = known (set_up_table setup) (refl, (refl, tt))

pub open_known : (engine : EngineRecord) (w : Window) → Known (first_refusal (open_table engine w))
unfolding refusal_numbered
open_known engine w = known (open_table engine w) (refl, (refl, (refl, tt)))

pub submit-known : (engine : EngineRecord) (given client size : ℕ) → Known (first_refusal (submit_table engine given client size))
unfolding refusal_numbered
submit-known engine given client size = known (submit_table engine given client size) (refl, (refl, (refl, (refl, (refl, (refl, (refl, tt)))))))

pub piece-known : (engine : EngineRecord) (given client size : ℕ) → Known (first_refusal (piece_table engine given client size))
unfolding refusal_numbered
piece-known engine given client size = known (piece_table engine given client size) (refl, (refl, (refl, (refl, tt))))

pub cancel-known : (engine : EngineRecord) (client : ℕ) → Known (first_refusal (cancel_table engine client))
unfolding refusal_numbered
cancel-known engine client = known (cancel_table engine client) (refl, (refl, (refl, tt)))

pub close-known : (engine : EngineRecord) (given client : ℕ) → Known (first_refusal (close_table engine given client))
unfolding refusal_numbered
close-known engine given client = known (close_table engine given client) (refl, (refl, (refl, (refl, tt))))

pub pending-known : (engine : EngineRecord) (client : ℕ) → Known (first_refusal (pending_table engine client))
unfolding refusal_numbered
pending-known engine client = known (pending_table engine client) (refl, (refl, tt))

-- no row holds
abbrev pub Clear : List RefusalRow → Type 0
Clear [] = Unit {0}
Clear ((n when t) ∷ rows) = 0 < n → (t ≡ false) × Clear rows

pub clear : (rows : List RefusalRow) → first_refusal rows ≡ 0 → Clear rows
unfolding first_refusal
clear [] e = tt
clear ((n when true) ∷ rows) e = λ p. absurd (omega arith)
clear ((n when false) ∷ rows) e = λ p. (refl, clear rows e)

pub record SetUpAllowed (setup : Setup) : Type 0 where
  pub ring : bad_ring setup ≡ false
  pub memory : bad_memory setup ≡ false

pub set-up-allowed : (setup : Setup) → first_refusal (set_up_table setup) ≡ 0 → SetUpAllowed setup
set-up-allowed setup e =
    let one = clear (set_up_table setup) e (omega arith) in
    record { ring = one.0; memory = (one.1 (omega arith)).0 }

pub record OpenAllowed (engine : EngineRecord) (w : Window) : Type 0 where
  pub ok : valid engine ≡ true
  pub few : length (open_windows engine) < 4
  pub good : bad_window engine.setup (open_windows engine) w ≡ false

pub open_allowed : (engine : EngineRecord) (w : Window) → first_refusal (open_table engine w) ≡ 0 → OpenAllowed engine w
open_allowed engine w e =
    let first = clear (open_table engine w) e (omega arith) in
    let three = first.1 (omega arith) in
    record { ok = not-false (valid engine) first.0; few = leb-false _ _ three.0; good = (three.1 (omega arith)).0 }

pub record SubmitAllowed (engine : EngineRecord) (given client size : ℕ) : Type 0 where
  pub ok : valid engine ≡ true
  pub ring : given ≡ engine.setup.ring
  pub owner : is_open engine client ≡ true
  pub idle : engine.staged ≡ no_staged
  pub allowed : bad_length engine.setup.ring size ≡ false
  pub slot : ready_slots engine < 8
  pub room : size ≤ free_bytes engine

pub submit-allowed : (engine : EngineRecord) (given client size : ℕ) → first_refusal (submit_table engine given client size) ≡ 0 → SubmitAllowed engine given client size
submit-allowed engine given client size e =
    let first = clear (submit_table engine given client size) e (omega arith) in
    let ten = first.1 (omega arith) in
    let five = ten.1 (omega arith) in
    let thirteen = five.1 (omega arith) in
    let six = thirteen.1 (omega arith) in
    let seven = six.1 (omega arith) in
    let ok : valid engine ≡ true = not-false (valid engine) first.0 in
    let few : taken_slots engine < 8 = leb-false _ _ seven.0 in
    record {
      ok = ok;
      idle = staged-idle engine (valid_facts engine ok).staged (not-false (is_idle engine.staged) thirteen.0);
      ring = eqb-true _ _ (not-false (eqb given engine.setup.ring) ten.0);
      owner = not-false (is_open engine client) five.0;
      allowed = six.0;
      slot = omega arith;
      room = ltb-false _ _ (seven.1 (omega arith)).0;
    }

-- the test behind `staged_by`
both_own : (idle own : Bool) → cond idle false own ≡ true → (idle ≡ false) × (own ≡ true)
both_own true own e = absurd (let z : ◌≡◌ {A = ℕ} 0 1 = cc in omega arith)
both_own false own e = (refl, e)

-- a staged submission of this client
pub record Own (engine : EngineRecord) (client : ℕ) : Type 0 where
  pub ok : valid engine ≡ true
  pub owner : is_open engine client ≡ true
  pub some : is_idle engine.staged ≡ false
  pub mine : engine.staged.client ≡ client
  pub unfinished : Unfinished engine

own : (engine : EngineRecord) (client : ℕ) → valid engine ≡ true → is_open engine client ≡ true → staged_by engine.staged client ≡ true → Own engine client
own engine client ok owner e =
    let both = both_own (is_idle engine.staged) (eqb engine.staged.client client) e in
    record { ok = ok; owner = owner; some = both.0; mine = eqb-true _ _ both.1; unfinished = staged_open engine (valid_facts engine ok).staged both.0 }

pub record PieceAllowed (engine : EngineRecord) (given client size : ℕ) : Type 0 where
  pub own : Own engine client
  pub ring : given ≡ engine.setup.ring
  pub fits : engine.staged.received + size ≤ engine.staged.total

pub piece-allowed : (engine : EngineRecord) (given client size : ℕ) → first_refusal (piece_table engine given client size) ≡ 0 → PieceAllowed engine given client size
piece-allowed engine given client size e =
    let first = clear (piece_table engine given client size) e (omega arith) in
    let ten = first.1 (omega arith) in
    let five = ten.1 (omega arith) in
    let last = or_false (not (staged_by engine.staged client)) (ltb (missing_bytes engine.staged) size) (five.1 (omega arith)).0 in
    let o : Own engine client = own engine client (not-false (valid engine) first.0) (not-false (is_open engine client) five.0) (not-false (staged_by engine.staged client) last.0) in
    let room : size ≤ missing_bytes engine.staged = ltb-false _ _ last.1 in
    record { own = o; ring = eqb-true _ _ (not-false (eqb given engine.setup.ring) ten.0); fits = omega (arith, o.unfinished.short) }

pub cancel-allowed : (engine : EngineRecord) (client : ℕ) → first_refusal (cancel_table engine client) ≡ 0 → Own engine client
cancel-allowed engine client e =
    let first = clear (cancel_table engine client) e (omega arith) in
    let five = first.1 (omega arith) in
    own engine client (not-false (valid engine) first.0) (not-false (is_open engine client) five.0) (not-false (staged_by engine.staged client) (five.1 (omega arith)).0)

pub record CloseAllowed (engine : EngineRecord) (given client : ℕ) : Type 0 where
  pub ok : valid engine ≡ true
  pub memory : given ≡ engine.setup.memory
  pub owner : is_open engine client ≡ true
  pub none : count_of client (ready_batches engine.slots) ≡ 0
  pub idle : staged_by engine.staged client ≡ false

pub close-allowed : (engine : EngineRecord) (given client : ℕ) → first_refusal (close_table engine given client) ≡ 0 → CloseAllowed engine given client
close-allowed engine given client e =
    let first = clear (close_table engine given client) e (omega arith) in
    let ten = first.1 (omega arith) in
    let five = ten.1 (omega arith) in
    let last = or_false (ltb 0 (count_of client (ready_batches engine.slots))) (staged_by engine.staged client) (five.1 (omega arith)).0 in
    let few : count_of client (ready_batches engine.slots) ≤ 0 = ltb-false _ _ last.0 in
    record {
      ok = not-false (valid engine) first.0;
      memory = eqb-true _ _ (not-false (eqb given engine.setup.memory) ten.0);
      owner = not-false (is_open engine client) five.0;
      none = omega arith;
      idle = last.1;
    }

pub record PendingAllowed (engine : EngineRecord) (client : ℕ) : Type 0 where
  pub ok : valid engine ≡ true
  pub owner : is_open engine client ≡ true

pub pending-allowed : (engine : EngineRecord) (client : ℕ) → first_refusal (pending_table engine client) ≡ 0 → PendingAllowed engine client
pending-allowed engine client e =
    let first = clear (pending_table engine client) e (omega arith) in
    record { ok = not-false (valid engine) first.0; owner = not-false (is_open engine client) (first.1 (omega arith)).0 }
