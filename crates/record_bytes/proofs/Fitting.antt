-- The numbers of a valid record fit in words.
use mathlib.Core.Path.{◌≡◌, refl, ◌∙◌}
use mathlib.Core.Bool.{Bool, true, false, ◌&&◌, cond, not}
use mathlib.Core.List.{List, [], ◌∷◌}
use Prim.Native.Nat.{ℕ, ◌+◌, ◌≤◌, ◌<◌, ◌^◌}
use native.Mathlib.Omega.{arith}
use lib.Dec.{ltb, eqb}
use borrow.Author.Tests.{ltb-true, lt-ltb, eqb-true, not-true}
use Rattle.std.proofs.Common.{Option, Some, None}
use Rattle.word.proofs.Tests.{and-true}
use Rattle.ring.specs.Segment.{wrap_offset}
use Rattle.ring.proofs.Wrapped.{wrapped_below}
use Rattle.engine_record.specs.declared.Batch.{Batch}
use Rattle.engine_record.specs.declared.EngineRecord.{EngineRecord}
use Rattle.engine_record.specs.Setup.{bad_length}
use Rattle.engine_record.specs.Slots.{cons_if_ready, ready_batches, sum_over}
use Rattle.engine_record.specs.Queue.{ready_slots, waiting}
use Rattle.engine_record.specs.Staged.{no_staged, is_idle}
use Rattle.engine_record.specs.Rules.{end_to_end, lengths_allowed, staged_rule, valid}
use Rattle.engine_record.proofs.Slots.{ready_most}
use Rattle.engine_record.proofs.Unfinished.{Unfinished, staged_cases}
use mathlib.Core.Logic.{⊎_elim}
use Rattle.engine_record.proofs.Rules.{length-good, valid_facts, sum-waiting}
use Rattle.record_bytes.specs.RoundTrip.{AllSlots, SlotFitsWords, Typed, RecordFitsWords, RoundTrip}
use Rattle.record_bytes.proofs.RoundTrip.{back}

-- 1 for a batch that does not fit, so that the sum over the batches counts those
abbrev big : Batch → ℕ
big b = cond (ltb b.offset 4294967296 && ltb b.length 4294967296) 0 1

-- batches end to end in a ring of at most 32,768 bytes fit
none-big : (ring offset : ℕ) (bs : List Batch) → ring ≤ 32768 → offset < ring → end_to_end ring offset bs ≡ true → lengths_allowed ring bs ≡ true → sum_over big bs ≡ 0
unfolding sum_over end_to_end lengths_allowed
none-big ring offset [] small h e l = refl
none-big ring offset (b ∷ bs) small h e l =
    let ends = and-true (eqb b.offset offset) (end_to_end ring (wrap_offset ring (offset + b.length)) bs) e in
    let lengths = and-true (not (bad_length ring b.length)) (lengths_allowed ring bs) l in
    let here = eqb-true b.offset offset ends.0 in
    let good = length-good ring b.length (not-true (bad_length ring b.length) lengths.0) in
    let short : b.length ≤ ring = good.within in
    let rest = none-big ring (wrap_offset ring (offset + b.length)) bs small (wrapped_below ring (offset + b.length) (omega arith)) ends.1 lengths.1 in
    rw (lt-ltb b.offset 4294967296 (omega arith), lt-ltb b.length 4294967296 (omega arith)) (omega arith)

-- one that is counted as none fits
not-big : (b : Batch) (n : ℕ) → big b + n ≡ 0 → (b.offset < 2 ^ 32) × (b.length < 2 ^ 32)
not-big b n e = go (ltb b.offset 4294967296 && ltb b.length 4294967296) refl e
  where
    go : (t : Bool) → (ltb b.offset 4294967296 && ltb b.length 4294967296) ≡ t → cond t 0 1 + n ≡ 0 → (b.offset < 2 ^ 32) × (b.length < 2 ^ 32)
    go true p q =
        let both = and-true (ltb b.offset 4294967296) (ltb b.length 4294967296) p in
        (ltb-true b.offset 4294967296 both.0, ltb-true b.length 4294967296 both.1)
    go false p q = absurd (omega arith)

all_small : (ss : List (Option Batch)) → sum_over big (ready_batches ss) ≡ 0 → AllSlots SlotFitsWords ss
unfolding sum_over ready_batches
all_small [] e = tt
all_small (s ∷ ss) e = go s refl (all_small ss) e
  where
    go : (st : Option Batch) → s ≡ st → (sum_over big (ready_batches ss) ≡ 0 → AllSlots SlotFitsWords ss) → sum_over big (cons_if_ready st (ready_batches ss)) ≡ 0 → SlotFitsWords s × AllSlots SlotFitsWords ss
    go None p others q = (rw p tt, others q)
    go (Some b) p others q = (rw p (not-big b (sum_over big (ready_batches ss)) q), others (omega arith))

staged-fits : (r : EngineRecord) → staged_rule r ≡ true → r.setup.ring ≤ 32768 → (r.staged.slot < 2 ^ 32) × (r.staged.total < 2 ^ 32) × (r.staged.received < 2 ^ 32)
staged-fits r e small =
    ⊎_elim
    (λ (n : r.staged ≡ no_staged). rw n (omega arith, omega arith, omega arith))
    (λ (u : (is_idle r.staged ≡ false) × Unfinished r). (omega (arith, u.1.slot), omega (arith, u.1.room), omega (arith, u.1.room, u.1.short)))
    (staged_cases r e)

pub fits : (r : EngineRecord) → Typed r → valid r ≡ true → RecordFitsWords r
fits r t ok =
    let v = valid_facts r ok in
    let ring = v.numbers.ring.small in
    let memory = v.numbers.memory.small in
    let shared = v.numbers.memory.shared in
    let few : ready_slots r ≤ 8 = omega (arith, ready_most r.slots, t.eight) in
    let none : sum_over big (ready_batches r.slots) ≡ 0 =
    sum-waiting r v few big ∙ none-big r.setup.ring r.read_offset (waiting r) ring v.numbers.below v.ends v.lengths
    in
    record {
      ring = omega arith;
      memory = omega arith;
      common = omega arith;
      read_offset = omega (arith, v.numbers.below);
      slots = all_small r.slots none;
      staged = staged-fits r v.staged ring;
    }

pub round_trip : (r : EngineRecord) → RoundTrip r
round_trip r = record { back = back r; fits = fits r }
