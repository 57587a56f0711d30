-- One batch, a task at a time.
use mathlib.Core.Path.{◌≡◌, refl, sym, ap, ◌∙◌}
use mathlib.Core.Bool.{Bool, true, false, cond}
use mathlib.Core.List.{List, [], ◌∷◌}
use Prim.Native.Nat.{ℕ, ◌-◌, ◌≤◌}
use native.Mathlib.Omega.{arith}
use lib.Dec.{eqb}
use lib.ListN.{length, get_or, take, drop}
use Rattle.word.specs.Word.{words}
use Rattle.ring.specs.Segment.{batch_words}
use Rattle.reset.specs.declared.ResetRule.{ResetRule}
use Rattle.register.specs.Bank.{reset_bank}
use Rattle.register.specs.declared.bank.Bank.{Bank}
use Rattle.register.specs.declared.task.Task.{Task}
use Rattle.task_check.specs.declared.fault.Fault.{Fault}
use Rattle.task_check.specs.declared.task.Bounds.{Bounds}
use Rattle.task_check.specs.Faults.{fault_number}
use Rattle.std.specs.Prelude.{Option, Some, None}
use Rattle.batch.specs.declared.verdict.FaultAt.{FaultAt}
use Rattle.batch.specs.declared.walk.BatchTasks.{BatchTasks}
use Rattle.batch.specs.Batch.{DecodedBatch, stop_with, decode_batch}
use Rattle.batch.specs.Walk.{ending_of, reading_left, GivesTask}
use Rattle.claims.specs.BatchSemantics.{bounds_of}
use Rattle.records.specs.declared.Edition.{Edition}
use Rattle.records.specs.declared.Edition.TheVariants.{First, Second}
use Rattle.records.specs.Records.{Entry}
use Rattle.records.specs.Reading.{batch_start, entry_in}
use Rattle.records.specs.Editions.{reset_rule_of, score_holds, submission, score_in}
use Rattle.records.proofs.editions.Records.{score_in_lem, submission_in}
use Rattle.lines.specs.Answered.{record_refusal, replay_window}
use Rattle.std.specs.Prelude.{Option, Some, None}
use Rattle.lines.specs.Submitted.{submitted_as}
use Rattle.lines.proofs.acceptance.Taken.{taken_facts, whole_words}
use Rattle.tally.specs.declared.Running.{Running}
use Rattle.tally.specs.Running.{plus, task_plus, tasks_plus, rest_plus, ran_plus, unscored_plus, submitted_plus, record_plus}

module _ (old new : BatchTasks) (so_far : Running) where
  -- a task is given
  pub one_given : (t : Task) → GivesTask old (Some t) new → rest_plus (reading_left old) so_far ≡ rest_plus (reading_left new) (task_plus t so_far)
  unfolding tasks_plus
  one_given t g = ap (λ (r : DecodedBatch). rest_plus r so_far) g.0

  -- none is left, and there was no fault
  pub none_given : GivesTask old None new → new.fault ≡ None → rest_plus (reading_left old) so_far ≡ so_far
  unfolding tasks_plus
  none_given g e = ap (λ (r : DecodedBatch). rest_plus r so_far) (g.0 ∙ ap (λ (f : Option FaultAt). stop_with new.bank (ending_of f)) e)

  -- or there was
  pub fault_given : GivesTask old None new → (found : FaultAt) → new.fault ≡ Some found → rest_plus (reading_left old) so_far ≡ plus (fault_number found.fault - 16) 1 so_far
  unfolding tasks_plus
  fault_given g found e = ap (λ (r : DecodedBatch). rest_plus r so_far) (g.0 ∙ ap (λ (f : Option FaultAt). stop_with new.bank (ending_of f)) e)

-- ---- a record that is submitted

module _ (edition : Edition) (entry : Entry) (s : Running) (r : Option Bounds) (is : r ≡ submitted_as entry) where
  pub submitted-refused : r ≡ None → s ≡ submitted_plus edition entry s
  submitted-refused e = go (eqb (record_refusal entry) 0) refl
    where
      go : (b : Bool) → eqb (record_refusal entry) 0 ≡ b → s ≡ submitted_plus edition entry s
      go true took =
          let wrong : Some (bounds_of (replay_window entry.client) 16384) ≡ None = sym (is ∙ rw took) ∙ e in
          absurd (let z : ◌≡◌ {A = ℕ} 0 1 = cc in omega arith)
      go false took = rw took

  pub submitted-within : (bounds : Bounds) → r ≡ Some bounds → (rule : ResetRule) → rule ≡ reset_rule_of edition → (out : Running)
      → out ≡ ran_plus (decode_batch bounds (reset_bank rule) (batch_words entry.batch 0 (length entry.batch))) s → out ≡ submitted_plus edition entry s
  submitted-within bounds e rule rule-is out out-is = go (eqb (record_refusal entry) 0) refl
    where
      go : (b : Bool) → eqb (record_refusal entry) 0 ≡ b → out ≡ submitted_plus edition entry s
      go true took =
          let right : Some (bounds_of (replay_window entry.client) 16384) ≡ Some bounds = sym (is ∙ rw took) ∙ e in
          let same : bounds ≡ bounds_of (replay_window entry.client) 16384 = cc in
          let ws : batch_words entry.batch 0 (length entry.batch) ≡ words entry.batch = whole_words entry.batch (taken_facts entry.client entry.batch took).1 in
          out-is ∙ rw (took, same, rule-is, ws)
      go false took =
          let wrong : None ≡ Some bounds = sym (is ∙ rw took) ∙ e in
          absurd (let z : ◌≡◌ {A = ℕ} 0 1 = cc in omega arith)

-- ---- a record that lies in the buffer

-- there is a byte for its client
pub lies_some : (edition : Edition) (end room : ℕ) → (batch_start edition ≤ end) × (end ≤ room) → 5 ≤ room
lies_some First end room lies = omega arith
lies_some Second end room lies = omega arith

module _ (edition : Edition) (held : List ℕ) (end : ℕ) (lies : (batch_start edition ≤ end) × (end ≤ length held)) (s begun : Running) (begun-is : begun ≡ unscored_plus edition s)
    (good : Bool) (is : good ≡ score_in edition held end) where
  holds : (b : Bool) → good ≡ b → score_holds edition (entry_in held end) ≡ b
  holds b e = sym (score_in_lem edition held end lies) ∙ sym is ∙ e

  pub record_bad : good ≡ false → begun ≡ record_plus edition (entry_in held end) s
  record_bad e = rw (holds false e) begun-is

  pub record_good : good ≡ true → (start : ℕ) → start ≡ batch_start edition → (out : Running)
      → out ≡ submitted_plus edition (record { client = get_or held 4 0; batch = take (end - start) (drop start held) }) begun → out ≡ record_plus edition (entry_in held end) s
  record_good e start at out out-is = rw (holds true e, submission_in edition held end lies, ← at, ← begun-is) out-is
