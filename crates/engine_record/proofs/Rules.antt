-- What each rule says, as facts.
use Rattle.std.proofs.Common.{◌≡◌, ℕ, ◌+◌, ◌-◌, ◌%◌, ◌<◌, ◌≤◌, Bool, true, false, not, ◌&&◌, ◌||◌, eqb, ltb, List, [], ◌∷◌, ◌++◌, length, refl, ap, ◌∙◌, add-zero, arith, ltb-false, ltb-true, eqb-true, le-leb, leb-true}
use borrow.Author.Tests.{eqb-false, not-true, not-false}
use Rattle.word.proofs.Tests.{and-true, or_false}
use Rattle.engine_record.specs.declared.Setup.{Setup}
use Rattle.engine_record.specs.declared.EngineRecord.{EngineRecord}
use Rattle.engine_record.specs.Setup.{bad_ring, bad_memory, bad_length}
use Rattle.engine_record.specs.declared.Batch.{Batch}
use Rattle.engine_record.specs.Slots.{ready_batches, sum_over, total_length}
use Rattle.engine_record.specs.Queue.{ready_slots, ready_bytes, free_bytes, write_offset, waiting}
use Rattle.engine_record.specs.Rules.{ring_rule, memory_rule, read_rule, number_rules, windows_rule, tickets_rule, end_to_end_rule, lengths_rule, total_rule, owners_rule, batch_rules, pending_rule, staged_rule, valid}
use Rattle.ring.specs.Segment.{wrap_offset}
use Rattle.ring.proofs.Wrapped.{wrapped_in}
use Rattle.engine_record.proofs.Line.{after_last}
use Rattle.engine_record.proofs.Slots.{ready_most}
use Rattle.engine_record.proofs.Order.{sum-order, length-order}

pub record RingGood (ring : ℕ) : Type 0 where
  pub some : 0 < ring
  pub small : ring ≤ 32768
  pub whole : ring % 128 ≡ 0

pub ring-good : (setup : Setup) → bad_ring setup ≡ false → RingGood setup.ring
ring-good setup e =
    let n : ℕ = setup.ring in
    let x = or_false (eqb n 0 || ltb 32768 n) (not (eqb (n % 128) 0)) e in
    let y = or_false (eqb n 0) (ltb 32768 n) x.0 in
    let z : n ≡ 0 → ⊥ = eqb-false n 0 y.0 in
    record { some = omega arith; small = ltb-false 32768 n y.1; whole = eqb-true (n % 128) 0 (not-false (eqb (n % 128) 0) x.1) }

pub record MemoryGood (setup : Setup) : Type 0 where
  pub small : setup.memory ≤ 16777216
  pub shared : setup.common ≤ setup.memory

pub memory-good : (setup : Setup) → bad_memory setup ≡ false → MemoryGood setup
memory-good setup e =
    let x = or_false (ltb 16777216 setup.memory) (ltb setup.memory setup.common) e in
    record { small = ltb-false _ _ x.0; shared = ltb-false _ _ x.1 }

pub record LengthGood (ring size : ℕ) : Type 0 where
  pub some : 0 < size
  pub four : size % 4 ≡ 0
  pub within : size ≤ ring

pub length-good : (ring size : ℕ) → bad_length ring size ≡ false → LengthGood ring size
length-good ring size e =
    let x = or_false (eqb size 0 || not (eqb (size % 4) 0)) (ltb ring size) e in
    let y = or_false (eqb size 0) (not (eqb (size % 4) 0)) x.0 in
    let z : size ≡ 0 → ⊥ = eqb-false size 0 y.0 in
    record { some = omega arith; four = eqb-true (size % 4) 0 (not-false (eqb (size % 4) 0) y.1); within = ltb-false ring size x.1 }

pub record Numbers (engine : EngineRecord) : Type 0 where
  pub ring : RingGood engine.setup.ring
  pub memory : MemoryGood engine.setup
  pub four : engine.read_offset % 4 ≡ 0
  pub below : engine.read_offset < engine.setup.ring

pub numbers : (engine : EngineRecord) → number_rules engine ≡ true → Numbers engine
numbers engine e =
    let x = and-true (ring_rule engine && memory_rule engine) (read_rule engine) e in
    let z = and-true (ring_rule engine) (memory_rule engine) x.0 in
    let r = and-true (eqb (engine.read_offset % 4) 0) (ltb engine.read_offset engine.setup.ring) x.1 in
    record {
      ring = ring-good engine.setup (not-true (bad_ring engine.setup) z.0);
      memory = memory-good engine.setup (not-true (bad_memory engine.setup) z.1);
      four = eqb-true _ _ r.0;
      below = ltb-true _ _ r.1;
    }

-- a record whose numbers are wrong, and one whose numbers are right
module _ (engine : EngineRecord) where
  pub valid-not : number_rules engine ≡ false → false ≡ valid engine
  unfolding valid
  valid-not e = rw e

  abbrev pub settled : Bool
  settled = windows_rule engine && batch_rules engine && pending_rule engine

  pub valid-not-settled : number_rules engine ≡ true → settled ≡ false → false ≡ valid engine
  unfolding valid
  valid-not-settled e h = rw (e, h)

  pub valid-rest : number_rules engine ≡ true → settled ≡ true → staged_rule engine ≡ valid engine
  unfolding valid
  valid-rest e h = rw (e, h)

-- the ready batches of a record whose numbers and batches are right lie in the ring's room
pub settled-bytes : (engine : EngineRecord) → batch_rules engine ≡ true → length engine.slots ≡ 8 → ready_bytes engine ≤ engine.setup.ring
settled-bytes engine e eight =
    let a = and-true (tickets_rule engine && end_to_end_rule engine && lengths_rule engine && total_rule engine) (owners_rule engine) e in
    let b = and-true (tickets_rule engine && end_to_end_rule engine && lengths_rule engine) (total_rule engine) a.0 in
    let c = and-true (tickets_rule engine && end_to_end_rule engine) (lengths_rule engine) b.0 in
    let d = and-true (tickets_rule engine) (end_to_end_rule engine) c.0 in
    rw (sum-order (λ x. x.length) (ready_slots engine) engine.next_ticket engine.slots refl (omega (arith, ready_most engine.slots)) d.0) (leb-true (total_length (waiting engine)) engine.setup.ring b.1)

-- ---- every rule of a valid record

pub record Valid (engine : EngineRecord) : Type 0 where
  pub numbers : Numbers engine
  pub windows : windows_rule engine ≡ true
  pub given : tickets_rule engine ≡ true
  pub ends : end_to_end_rule engine ≡ true
  pub lengths : lengths_rule engine ≡ true
  pub within : total_length (waiting engine) ≤ engine.setup.ring
  pub owners : owners_rule engine ≡ true
  pub counts : pending_rule engine ≡ true
  pub staged : staged_rule engine ≡ true

pub valid_facts : (engine : EngineRecord) → valid engine ≡ true → Valid engine
unfolding valid
valid_facts engine e =
    let u = and-true (number_rules engine && windows_rule engine && batch_rules engine && pending_rule engine) (staged_rule engine) e in
    let x = and-true (number_rules engine && windows_rule engine && batch_rules engine) (pending_rule engine) u.0 in
    let y = and-true (number_rules engine && windows_rule engine) (batch_rules engine) x.0 in
    let z = and-true (number_rules engine) (windows_rule engine) y.0 in
    let a = and-true (tickets_rule engine && end_to_end_rule engine && lengths_rule engine && total_rule engine) (owners_rule engine) y.1 in
    let b = and-true (tickets_rule engine && end_to_end_rule engine && lengths_rule engine) (total_rule engine) a.0 in
    let c = and-true (tickets_rule engine && end_to_end_rule engine) (lengths_rule engine) b.0 in
    let d = and-true (tickets_rule engine) (end_to_end_rule engine) c.0 in
    record {
      numbers = numbers engine z.0;
      windows = z.1;
      given = d.0;
      ends = d.1;
      lengths = c.1;
      within = leb-true _ _ b.1;
      owners = a.1;
      counts = x.1;
      staged = u.1;
    }

-- the number rules are kept, and every other one: the record is valid
pub valid-made : (engine : EngineRecord) → number_rules engine ≡ true → windows_rule engine ≡ true → tickets_rule engine ≡ true → end_to_end_rule engine ≡ true →
    lengths_rule engine ≡ true → total_length (waiting engine) ≤ engine.setup.ring → owners_rule engine ≡ true → pending_rule engine ≡ true →
    staged_rule engine ≡ true → valid engine ≡ true
unfolding valid
valid-made engine n w g e l t o c u = rw (n, w, g, e, l, le-leb (total_length (waiting engine)) engine.setup.ring t, o, c, u)

pub numbers-kept : (engine : EngineRecord) → valid engine ≡ true → number_rules engine ≡ true
unfolding valid
numbers-kept engine e =
    let u = and-true (number_rules engine && windows_rule engine && batch_rules engine && pending_rule engine) (staged_rule engine) e in
    let x = and-true (number_rules engine && windows_rule engine && batch_rules engine) (pending_rule engine) u.0 in
    let y = and-true (number_rules engine && windows_rule engine) (batch_rules engine) x.0 in
    (and-true (number_rules engine) (windows_rule engine) y.0).0

-- the batches in order are all that are ready, so sums over the slots are sums over them
module _ (engine : EngineRecord) (v : Valid engine) (few : ready_slots engine ≤ 8) where
  pub sum-waiting : (f : Batch → ℕ) → sum_over f (ready_batches engine.slots) ≡ sum_over f (waiting engine)
  sum-waiting f = sum-order f (ready_slots engine) engine.next_ticket engine.slots refl (omega arith) v.given

  -- free room is the ring less the waiting lengths, the staged one among them
  pub free-room : free_bytes engine ≡ engine.setup.ring - (total_length (waiting engine) + engine.staged.total)
  free-room = rw (sum-waiting (λ b. b.length))

  pub ready-within : ready_bytes engine ≤ engine.setup.ring
  ready-within = rw (sum-waiting (λ b. b.length)) v.within

  pub length-waiting : length (waiting engine) ≡ ready_slots engine
  length-waiting = length-order (ready_slots engine) engine.next_ticket engine.slots

  -- the next batch goes after the newest one, and to the read offset if none is ready
  pub write_newest : (bs : List Batch) (b : Batch) → waiting engine ≡ bs ++ (b ∷ []) → write_offset engine ≡ wrap_offset engine.setup.ring (b.offset + b.length)
  write_newest bs b is =
      ap (λ (x : ℕ). wrap_offset engine.setup.ring (engine.read_offset + x)) (sum-waiting (λ x. x.length) ∙ ap total_length is)
      ∙ after_last engine.setup.ring engine.read_offset v.numbers.below bs b (rw is at v.within) (rw is at v.ends)

  pub write_first : waiting engine ≡ [] → write_offset engine ≡ engine.read_offset
  unfolding sum_over
  write_first is =
      ap (λ (x : ℕ). wrap_offset engine.setup.ring (engine.read_offset + x)) (sum-waiting (λ x. x.length) ∙ ap total_length is)
      ∙ rw add-zero (wrapped_in engine.setup.ring engine.read_offset v.numbers.below)
