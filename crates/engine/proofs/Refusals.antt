-- What it says of run that no row of its table holds.
use mathlib.Core.Path.{◌≡◌, refl}
use mathlib.Core.Bool.{true, not}
use Prim.Native.Nat.{ℕ, ◌<◌}
use native.Mathlib.Omega.{arith}
use lib.Dec.{eqb}
use borrow.Author.Tests.{eqb-true, eqb-false, not-false}
use Rattle.word.proofs.Tests.{or_false}
use Rattle.engine_record.specs.declared.EngineRecord.{EngineRecord}
use Rattle.engine_record.specs.Queue.{ready_slots}
use Rattle.engine_record.specs.Rules.{valid}
use Rattle.queue.specs.Answers.{refusal_numbered}
use Rattle.queue.specs.Refusals.{first_refusal}
use Rattle.queue.proofs.Refusals.{Known, known, clear}
use Rattle.engine.specs.Run.{run_table}

pub run-known : (engine : EngineRecord) (given lent : ℕ) → Known (first_refusal (run_table engine given lent))
unfolding refusal_numbered
run-known engine given lent = known (run_table engine given lent) (refl, (refl, (refl, tt)))

pub record RunAllowed (engine : EngineRecord) (given lent : ℕ) : Type 0 where
  pub ok : valid engine ≡ true
  pub ring : given ≡ engine.setup.ring
  pub memory : lent ≡ engine.setup.memory
  pub some : 0 < ready_slots engine

pub run-allowed : (engine : EngineRecord) (given lent : ℕ) → first_refusal (run_table engine given lent) ≡ 0 → RunAllowed engine given lent
run-allowed engine given lent e =
    let eleven = clear (run_table engine given lent) e (omega arith) in
    let ten = eleven.1 (omega arith) in
    let nine = ten.1 (omega arith) in
    let both = or_false (not (eqb given engine.setup.ring)) (not (eqb lent engine.setup.memory)) ten.0 in
    let none : ready_slots engine ≡ 0 → ⊥ = eqb-false (ready_slots engine) 0 nine.0 in
    record {
      ok = not-false (valid engine) eleven.0;
      ring = eqb-true _ _ (not-false (eqb given engine.setup.ring) both.0);
      memory = eqb-true _ _ (not-false (eqb lent engine.setup.memory) both.1);
      some = omega arith;
    }
