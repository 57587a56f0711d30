-- Run as a whole: its number is the table's, a refusal changes nothing, a valid record stays valid, and the batches that were behind the
-- oldest go on waiting.
use Rattle.std.proofs.Common.{Err}
use mathlib.Core.Path.{◌≡◌, refl, ap, sym, ◌∙◌}
use mathlib.Core.List.{List, ◌∷◌}
use mathlib.Core.Bool.{true}
use Prim.Native.Nat.{ℕ, suc, ◌-◌, ◌<◌}
use native.Mathlib.Omega.{arith}
use lib.ListN.{length, get_or, length-set}
use Rattle.word.specs.Word.{words}
use Rattle.ring.specs.Segment.{segment, LiesInRing}
use Rattle.ring.proofs.Segment.{batch-words}
use Rattle.engine_record.specs.declared.Batch.{Batch}
use Rattle.engine_record.specs.declared.EngineRecord.{EngineRecord}
use Rattle.engine_record.specs.Slots.{free}
use Rattle.engine_record.specs.Tickets.{slot_of_ticket}
use Rattle.engine_record.specs.Clients.{no_client, is_open}
use Rattle.engine_record.specs.Queue.{ready_slots, waiting}
use Rattle.engine_record.specs.Rules.{valid}
use Rattle.engine_record.proofs.Line.{held}
use Rattle.engine_record.proofs.Rules.{LengthGood, valid_facts}
use Rattle.engine_record.proofs.Taken.{first, taken, waiting-first, first-at, taken-valid, taken-waiting}
use Rattle.queue.specs.Answers.{refusal_numbered}
use Rattle.queue.proofs.Validity.{Sized}
use Rattle.queue.proofs.Preservation.{unless_keeps, number-answered}
use Rattle.engine.specs.Outcome.{run_refusal_of}
use Rattle.engine.specs.Run.{run_number, oldest_ticket, oldest, oldest_words, without_oldest, run_result, run_memory}
use Rattle.engine.proofs.Oldest.{owner_open, few, first-is, good}
use Rattle.engine.proofs.Refusals.{run-known, RunAllowed, run-allowed}
use Rattle.engine.proofs.Calls.{completion, run-refused}

-- ---- the paper's number

pub run-number : (engine : EngineRecord) (ring memory : List ℕ) → run_refusal_of (run_result engine ring memory).outcome ≡ run_number engine ring memory
unfolding run_result
run-number engine ring memory = number-answered (run_number engine ring memory) (completion engine ring) (run-known engine (length ring) (length memory))

-- ---- a refusal changes nothing

pub run-refused_no_op : (engine : EngineRecord) (ring memory : List ℕ) → (run_number engine ring memory ≡ 0 → ⊥) →
    (run_result engine ring memory ≡ record { outcome = Err (refusal_numbered (run_number engine ring memory)); engine = engine }) × (run_memory engine ring memory ≡ memory)
run-refused_no_op engine ring memory z =
    let both = run-refused engine ring memory (refusal_numbered (run_number engine ring memory)) (run-known engine (length ring) (length memory) z) in
    (sym both.0, sym both.1)

-- ---- the record without its oldest batch

pub run-sized : (engine : EngineRecord) → Sized engine → Sized (without_oldest engine)
unfolding without_oldest
run-sized engine s = record {
  clients = length-set engine.clients (oldest engine).client (record { window = (get_or engine.clients (oldest engine).client no_client).window; pending = (get_or engine.clients (oldest engine).client no_client).pending - 1; opened = (get_or engine.clients (oldest engine).client no_client).opened }) ∙ s.clients;
  slots = length-set engine.slots (slot_of_ticket (oldest_ticket engine) engine.slots) free ∙ s.slots;
  next_ticket = s.next_ticket;
}

-- k batches are ready beside it
module _ (engine : EngineRecord) (s : Sized engine) (ok : valid engine ≡ true) (k : ℕ) (more : ready_slots engine ≡ suc k) where
  less : k < 8
  less = few engine ok k more s.clients s.slots

  is : oldest engine ≡ first engine ok k more less s.clients
  is = first-is engine ok k more s.clients s.slots

  taken_is : without_oldest engine ≡ taken engine ok k more less s.clients
  unfolding without_oldest
  taken_is = rw more

  stays : valid (without_oldest engine) ≡ true
  stays = rw taken_is (taken-valid engine ok k more less s.clients)

  waits : waiting engine ≡ oldest engine ∷ waiting (without_oldest engine)
  waits = rw (taken_is, is) (waiting-first engine ok k more less s.clients ∙ rw (taken-waiting engine ok k more less s.clients))

  at_read : (oldest engine).offset ≡ engine.read_offset
  at_read = rw is (first-at engine ok k more less s.clients)

-- set-up numbers, the next ticket and the staged submission are as they were
pub run-kept : (engine : EngineRecord) → ((without_oldest engine).setup ≡ engine.setup) × ((without_oldest engine).next_ticket ≡ engine.next_ticket) × ((without_oldest engine).staged ≡ engine.staged)
unfolding without_oldest
run-kept engine = (refl, refl, refl)

module _ (engine : EngineRecord) (s : Sized engine) (given lent : ℕ) (a : RunAllowed engine given lent) where
  abbrev behind : ℕ
  behind = ready_slots engine - 1

  more : ready_slots engine ≡ suc behind
  more = omega (arith, a.some)

  -- the record stays valid
  pub run-valid : valid (without_oldest engine) ≡ true
  run-valid = stays engine s a.ok behind more

  -- the oldest batch was the first in ticket order, and the others wait on
  pub run-waiting : waiting engine ≡ oldest engine ∷ waiting (without_oldest engine)
  run-waiting = waits engine s a.ok behind more

  -- it lies at the read offset, with a length that submit allows
  pub oldest-at : (oldest engine).offset ≡ engine.read_offset
  oldest-at = at_read engine s a.ok behind more

  pub oldest-good : LengthGood engine.setup.ring (oldest engine).length
  oldest-good = good engine a.ok behind more s.clients s.slots

  -- its client is open, and the windows are as they were
  pub oldest_owner : is_open engine (oldest engine).client ≡ true
  oldest_owner = owner_open engine a.ok a.some

-- ---- the batch in the ring

module _ (engine : EngineRecord) (s : Sized engine) (ring : List ℕ) (lent : ℕ) (a : RunAllowed engine (length ring) lent) where
  pub oldest_lies : LiesInRing ring (oldest engine).offset (oldest engine).length
  oldest_lies =
      let at = oldest-at engine s (length ring) lent a in
      let size = oldest-good engine s (length ring) lent a in
      let below = (valid_facts engine a.ok).numbers.below in
      let same = a.ring in
      record { starts = omega arith; fits = omega arith }

  -- its words are those of its bytes
  pub oldest-words : oldest_words engine ring ≡ words (segment ring (oldest engine).offset (oldest engine).length)
  oldest-words = batch-words ring (oldest engine).offset (oldest engine).length oldest_lies

  -- the others have the bytes that they had; g puts a batch and its bytes together
  pub run-held : {A : Type 0} (g : Batch → List ℕ → A) →
      held g ring (waiting engine) ≡ g (oldest engine) (segment ring (oldest engine).offset (oldest engine).length) ∷ held g ring (waiting (without_oldest engine))
  unfolding held
  run-held g = ap (held g ring) (run-waiting engine s (length ring) lent a)

-- ---- every run, refused or not

pub run_preserves : (engine : EngineRecord) → Sized engine → valid engine ≡ true → (ring memory : List ℕ) →
    (valid (run_result engine ring memory).engine ≡ true) × Sized (run_result engine ring memory).engine
unfolding run_result
run_preserves engine s ok ring memory =
    unless_keeps (λ e. (valid e ≡ true) × Sized e) (run_number engine ring memory) engine (without_oldest engine) (ok, s)
    (λ z. (run-valid engine s (length ring) (length memory) (run-allowed engine (length ring) (length memory) z), run-sized engine s))
