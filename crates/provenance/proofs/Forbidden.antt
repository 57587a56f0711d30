-- Fault 24: the register that the word at its place is for does not take the word, and the bank is the one before that word.
use mathlib.Core.Path.{◌≡◌, refl}
use mathlib.Core.Bool.{Bool, true, false, cond}
use mathlib.Core.List.{List, [], ◌∷◌}
use Prim.Native.Nat.{ℕ, zero, suc, ◌+◌, ◌-◌, ◌*◌, ◌/◌}
use native.Mathlib.Omega.{arith}
use lib.ListN.{length, get_or}
use lib.Dec.{eqb-suc-zero}
use Rattle.word.specs.Field.{field}
use Rattle.register.specs.Bank.{write_register}
use Rattle.register.specs.Task.{task_of}
use Rattle.register.specs.declared.bank.Bank.{Bank}
use Rattle.std.specs.Prelude.{Result, Ok, Err, ⊤}
use Rattle.register.specs.declared.bank.WriteFault.{WriteFault}
use Rattle.register.specs.declared.bank.WriteFault.TheVariants.{NotWritable as Unwritable, Forbidden as NotTaken}
use Rattle.register.specs.declared.task.Task.{Task}
use Rattle.task_check.specs.declared.fault.Fault.{Fault}
use Rattle.task_check.specs.declared.fault.Fault.TheVariants.{ReservedBits, GroupLength, OpenTask, NotWritable, Forbidden, BadSurface, SizeMismatch, OutOfBounds, Overlap}
use Rattle.task_check.specs.declared.task.Bounds.{Bounds}
use Rattle.task_check.specs.Rules.{bad_surface, size_mismatch, out_of_bounds, output_overlaps, check_task}
use Rattle.batch.specs.Batch.{DecodedBatch, finished, faulty, stop_with, DecoderState, between_tasks, in_group, reserved_bits, bad_group_length, decode_header, after_write, after_task_check, group_of, decode_from, decode_batch}
use Rattle.batch.proofs.Readings.{on_from, on_with}
use Rattle.provenance.specs.declared.Group.{Group}
use Rattle.provenance.specs.Faulted.{group_after, register_from, register_at}

-- the place of a 24 in a reading of these words from word k on, and what is said of it
record Refuses (bank : Bank) (k : ℕ) (g : Group) (ws : List ℕ) (place : ℕ) : Type 0 where
  after : ℕ
  is : place ≡ 4 * (k + after)
  refuses : write_register bank (register_from g after ws) (get_or ws after 0) ≡ Err NotTaken

abbrev Claim : DecodedBatch → ℕ → Group → List ℕ → Type 0
Claim r k g ws = (place : ℕ) → r.ending ≡ faulty Forbidden place → Refuses r.bank k g ws place

abbrev group_in : DecoderState → Group
group_in between_tasks = record { left = 0; register = 0 }
group_in (in_group left offset ends head) = record { left = left; register = offset }

-- one word further on
further : (r : DecodedBatch) (k : ℕ) (g : Group) (w : ℕ) (ws : List ℕ) → Claim r (k + 1) (group_after g w) ws → Claim r k g (w ∷ ws)
unfolding register_from
further r k g w ws on place e =
    let c = on place e in
    record { after = suc c.after; is = omega (arith, c.is); refuses = c.refuses }

-- what ends otherwise
other : (f : Fault) (place place' : ℕ) → (f ≡ Forbidden → ⊥) → faulty f place ≡ faulty Forbidden place' → ⊥
other f place place' h e = h (let same : f ≡ Forbidden = cc in same)

not-finished : (place : ℕ) → finished ≡ faulty Forbidden place → ⊥
not-finished place e = let z : ◌≡◌ {A = ℕ} 0 1 = cc in omega arith

header_claim : (b : Bank) (k : ℕ) (left offset h : ℕ) (ws : List ℕ) (go : DecoderState → DecodedBatch) → left ≡ 0
    → Claim (go (group_of k h)) (k + 1) (group_in (group_of k h)) ws → Claim (decode_header b k h (length ws) go) k (record { left = left; register = offset }) (h ∷ ws)
header_claim b k left offset h ws go none on = by (reserved_bits h) (bad_group_length (field 15 2 h) (length ws))
  where
    by : (r l : Bool) → Claim (cond r (stop_with b (faulty ReservedBits (4 * k))) (cond l (stop_with b (faulty GroupLength (4 * k))) (go (group_of k h)))) k (record { left = left; register = offset }) (h ∷ ws)
    by true l place e = absurd (other ReservedBits (4 * k) place (λ (z : ReservedBits ≡ Forbidden). let y : ◌≡◌ {A = ℕ} 0 1 = cc in omega arith) e)
    by false true place e = absurd (other GroupLength (4 * k) place (λ (z : GroupLength ≡ Forbidden). let y : ◌≡◌ {A = ℕ} 0 1 = cc in omega arith) e)
    by false false place e = further (go (group_of k h)) k (record { left = left; register = offset }) h ws (rw none on) place e

module _ (bounds : Bounds) where
  -- a task is never judged so
  judged-other : (t : Task) (f : Fault) → check_task bounds t ≡ Err f → f ≡ Forbidden → ⊥
  unfolding check_task
  judged-other t f e z = by (bad_surface t) (size_mismatch t) (out_of_bounds bounds t) (output_overlaps t) e
    where
      by : (a b c d : Bool) → ◌≡◌ {A = Result ⊤ Fault} (cond a (Err BadSurface) (cond b (Err SizeMismatch) (cond c (Err OutOfBounds) (cond d (Err Overlap) (Ok tt))))) (Err f) → ⊥
      by true b c d e = let y : ◌≡◌ {A = ℕ} 0 1 = cc in omega arith
      by false true c d e = let y : ◌≡◌ {A = ℕ} 0 1 = cc in omega arith
      by false false true d e = let y : ◌≡◌ {A = ℕ} 0 1 = cc in omega arith
      by false false false true e = let y : ◌≡◌ {A = ℕ} 0 1 = cc in omega arith
      by false false false false e = let y : ◌≡◌ {A = ℕ} 0 1 = cc in omega arith

  judged_claim : (b : Bank) (head k : ℕ) (g : Group) (ws : List ℕ) (after : DecodedBatch) → Claim after k g ws → Claim (after_task_check (check_task bounds (task_of b)) b head after) k g ws
  judged_claim b head k g ws after on = by (check_task bounds (task_of b)) refl
    where
      by : (check : Result ⊤ Fault) → check_task bounds (task_of b) ≡ check → Claim (after_task_check check b head after) k g ws
      by (Ok tt) e place same = on place same
      by (Err f) e place same = absurd (other f (4 * head) place (judged-other (task_of b) f e) same)

  word_claim : (b : Bank) (k n offset w : ℕ) (ws : List ℕ) (go : Bank → DecodedBatch) → ((next : Bank) → Claim (go next) (k + 1) (record { left = n; register = offset + 4 }) ws)
      → Claim (after_write b k (write_register b offset w) go) k (record { left = suc n; register = offset }) (w ∷ ws)
  unfolding register_from
  word_claim b k n offset w ws go on = by (write_register b offset w) refl
    where
      next-group : group_after (record { left = suc n; register = offset }) w ≡ record { left = n; register = offset + 4 }
      next-group =
          let less : suc n - 1 ≡ n = omega arith in
          rw (eqb-suc-zero n, less)

      by : (x : Result Bank WriteFault) → write_register b offset w ≡ x → Claim (after_write b k x go) k (record { left = suc n; register = offset }) (w ∷ ws)
      by (Ok next) e place same = further (go next) k (record { left = suc n; register = offset }) w ws (rw next-group (on next)) place same
      by (Err Unwritable) e place same = absurd (other NotWritable (4 * k) place (λ (z : NotWritable ≡ Forbidden). let y : ◌≡◌ {A = ℕ} 0 1 = cc in omega arith) same)
      by (Err NotTaken) e place same =
          let there : 4 * k ≡ place = cc in
          record { after = 0; is = omega arith; refuses = rw (eqb-suc-zero n) e }

  claim_from : (b : Bank) (k : ℕ) (position : DecoderState) (ws : List ℕ) → Claim (decode_from bounds b k position ws) k (group_in position) ws
  unfolding decode_from
  claim_from b k between_tasks [] place e = absurd (not-finished place e)
  claim_from b k between_tasks (h ∷ ws) place e = header_claim b k 0 0 h ws (on_from bounds b k ws) refl (claim_from b (k + 1) (group_of k h) ws) place e
  claim_from b k (in_group (suc n) offset ends head) [] place e = absurd (other GroupLength (4 * head) place (λ (z : GroupLength ≡ Forbidden). let y : ◌≡◌ {A = ℕ} 0 1 = cc in omega arith) e)
  claim_from b k (in_group (suc n) offset ends head) (w ∷ ws) place e =
      word_claim b k n offset w ws (on_with bounds k (in_group n (offset + 4) ends head) ws) (λ next. claim_from next (k + 1) (in_group n (offset + 4) ends head) ws) place e
  claim_from b k (in_group zero offset false head) [] place e = absurd (other OpenTask (4 * head) place (λ (z : OpenTask ≡ Forbidden). let y : ◌≡◌ {A = ℕ} 0 1 = cc in omega arith) e)
  claim_from b k (in_group zero offset false head) (h ∷ ws) place e = header_claim b k 0 offset h ws (on_from bounds b k ws) refl (claim_from b (k + 1) (group_of k h) ws) place e
  claim_from b k (in_group zero offset true head) [] place e = judged_claim b head k (record { left = 0; register = offset }) [] (stop_with b finished) (λ place e. absurd (not-finished place e)) place e
  claim_from b k (in_group zero offset true head) (h ∷ ws) place e =
      judged_claim b head k (record { left = 0; register = offset }) (h ∷ ws) (decode_header b k h (length ws) (on_from bounds b k ws)) (header_claim b k 0 offset h ws (on_from bounds b k ws) refl (claim_from b (k + 1) (group_of k h) ws)) place e

  pub forbids : (bank : Bank) (ws : List ℕ) (place : ℕ) → (decode_batch bounds bank ws).ending ≡ faulty Forbidden place
      → write_register (decode_batch bounds bank ws).bank (register_at ws (place / 4)) (get_or ws (place / 4) 0) ≡ Err NotTaken
  forbids bank ws place e =
      let c = claim_from bank 0 between_tasks ws place e in
      let k : place / 4 ≡ c.after = omega (arith, c.is) in
      rw k c.refuses
