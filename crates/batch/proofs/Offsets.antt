-- A fault lies in its batch: its offset is below four bytes a word.
use mathlib.Core.Path.{◌≡◌, refl, ap}
use mathlib.Core.Bool.{true, false}
use mathlib.Core.List.{List, [], ◌∷◌}
use Prim.Native.Nat.{ℕ, zero, suc, ◌+◌, ◌*◌, ◌≤◌, ◌<◌}
use native.Mathlib.Omega.{arith}
use lib.ListN.{length}
use Rattle.register.specs.Bank.{write_register}
use Rattle.register.specs.Task.{task_of}
use Rattle.register.specs.declared.bank.Bank.{Bank}
use Rattle.task_check.specs.declared.fault.Fault.{Fault}
use Rattle.task_check.specs.declared.task.Bounds.{Bounds}
use Rattle.task_check.specs.Rules.{check_task}
use Rattle.std.specs.Prelude.{Option, Some, None}
use Rattle.batch.specs.declared.verdict.FaultAt.{FaultAt}
use Rattle.batch.specs.declared.verdict.Verdict.{Verdict}
use Rattle.batch.specs.Batch.{DecodedBatch, BatchEnd, finished, faulty, stop_with, DecoderState, between_tasks, in_group, group_of, decode_header, after_task_check, decode_from, decode_batch, with_fault, verdict_after, verdict_of, fault_offset_of}
use Rattle.batch.proofs.Readings.{on_from, on_with, opened-all, wrote-all, judged-all}

-- a fault's offset is below that of word m
abbrev Low : (m : ℕ) → BatchEnd → Type 0
Low m finished = Unit {0}
Low m (faulty f offset) = offset < 4 * m

-- the group that is read began before word k
abbrev Begun : DecoderState → (k : ℕ) → Type 0
Begun between_tasks k = Unit {0}
Begun (in_group left offset ends head) k = head < k

module _ (bounds : Bounds) (m : ℕ) where
  abbrev Under : DecodedBatch → Type 0
  Under r = Low m r.ending

  under_open : (b : Bank) (k h : ℕ) (ws : List ℕ) → k < m → Under (decode_from bounds b (k + 1) (group_of k h) ws) → Under (decode_header b k h (length ws) (on_from bounds b k ws))
  under_open b k h ws low on = opened-all Under b k (λ f. omega arith) h (length ws) (on_from bounds b k ws) (λ l. on)

  under-judged : (b : Bank) (head : ℕ) (after : DecodedBatch) → head < m → Under after → Under (after_task_check (check_task bounds (task_of b)) b head after)
  under-judged b head after low on = judged-all Under b head (λ f. omega arith) (check_task bounds (task_of b)) after (λ e. on)

  under-from : (b : Bank) (k : ℕ) (position : DecoderState) (ws : List ℕ) → k + length ws ≤ m → Begun position k → Under (decode_from bounds b k position ws)
  unfolding decode_from
  under-from b k between_tasks [] fits low = tt
  under-from b k between_tasks (h ∷ ws) fits low = under_open b k h ws (omega arith) (under-from b (k + 1) (group_of k h) ws (omega arith) (omega arith))
  under-from b k (in_group (suc n) offset ends head) [] fits low = omega arith
  under-from b k (in_group (suc n) offset ends head) (w ∷ ws) fits low =
      wrote-all Under b k (λ f. omega arith) (write_register b offset w) (on_with bounds k (in_group n (offset + 4) ends head) ws)
      (λ next. under-from next (k + 1) (in_group n (offset + 4) ends head) ws (omega arith) (omega arith))
  under-from b k (in_group zero offset false head) [] fits low = omega arith
  under-from b k (in_group zero offset false head) (h ∷ ws) fits low = under_open b k h ws (omega arith) (under-from b (k + 1) (group_of k h) ws (omega arith) (omega arith))
  under-from b k (in_group zero offset true head) [] fits low = under-judged b head (stop_with b finished) (omega arith) tt
  under-from b k (in_group zero offset true head) (h ∷ ws) fits low =
      under-judged b head (decode_header b k h (length ws) (on_from bounds b k ws)) (omega arith)
      (under_open b k h ws (omega arith) (under-from b (k + 1) (group_of k h) ws (omega arith) (omega arith)))

-- a fault's place is inside the batch
pub fault-inside : (bounds : Bounds) (bank : Bank) (ws : List ℕ) (tasks : ℕ) (fault : Fault) (place : ℕ) → verdict_of (decode_batch bounds bank ws) ≡ with_fault tasks fault place → place < 4 * length ws
fault-inside bounds bank ws tasks fault place e =
    go (length (decode_batch bounds bank ws).tasks) (decode_batch bounds bank ws).ending (under-from bounds (length ws) bank 0 between_tasks ws (omega arith) tt) e
  where
    go : (n : ℕ) (ending : BatchEnd) → Low (length ws) ending → verdict_after n ending ≡ with_fault tasks fault place → place < 4 * length ws
    go n finished h e =
        let none : ◌≡◌ {A = Option FaultAt} None (Some (record { fault = fault; offset = place })) = ap (λ (v : Verdict). v.fault) e in
        let z : ◌≡◌ {A = ℕ} 0 1 = cc in omega arith
    go n (faulty f o) h e =
        let same : o ≡ place = ap fault_offset_of e in omega (arith, same)

pub offset-within : (bounds : Bounds) (bank : Bank) (ws : List ℕ) → fault_offset_of (verdict_of (decode_batch bounds bank ws)) ≤ 4 * length ws
offset-within bounds bank ws = go (decode_batch bounds bank ws).ending refl
  where
    go : (e : BatchEnd) → (decode_batch bounds bank ws).ending ≡ e → fault_offset_of (verdict_after (length (decode_batch bounds bank ws).tasks) e) ≤ 4 * length ws
    go finished is = omega arith
    go (faulty fault place) is =
        omega (arith, fault-inside bounds bank ws (length (decode_batch bounds bank ws).tasks) fault place (ap (verdict_after (length (decode_batch bounds bank ws).tasks)) is))
