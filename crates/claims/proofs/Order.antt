-- Order between clients: the model's theorem at the real definitions, and of the engine by what it shares with the model.
use mathlib.Core.Path.{sym, ap, ◌∙◌}
use mathlib.Core.List.{List}
use Prim.Native.Nat.{ℕ}
use lib.ListN.{length}
use Rattle.register.specs.Bank.{reset_bank}
use Rattle.model.specs.Calls.{Setup, Call}
use Rattle.model.specs.State.{initial_model}
use Rattle.model.specs.Order.{verdicts_of, SameOutcome as SameInModel}
use Rattle.model.specs.Properties.{ModelProperties}
use Rattle.model.proofs.Theorems.{claims}
use Rattle.claims.specs.ModelProperties.{batch_semantics}
use Rattle.claims.specs.Engine.{SetUpAccepted}
use Rattle.claims.specs.Order.{SameOutcome, OrderHolds}
use Rattle.claims.proofs.Confined.{confined}
use Rattle.claims.proofs.Simulation.{like_model}

module _ (setup : Setup) (ring : List ℕ) (A : SetUpAccepted setup) where
  -- what is the same of the model is the same of the engine
  of-engine : (calls calls' : List Call) (memory : List ℕ) → SameInModel (batch_semantics setup) setup (length ring) calls calls' (initial_model memory) (initial_model memory) → SameOutcome setup ring calls calls' memory
  of-engine calls calls' memory same =
      let one = like_model setup ring A calls memory in
      let two = like_model setup ring A calls' memory in
      record {
        every_byte = one.every_byte ∙ same.memory ∙ sym two.every_byte;
        verdicts = λ client. ap (verdicts_of client) one.every_answer ∙ same.verdicts client ∙ sym (ap (verdicts_of client) two.every_answer);
      }

pub promise : OrderHolds
promise setup ring A =
    let c : ModelProperties (batch_semantics setup) setup (length ring) = claims (batch_semantics setup) setup (length ring) in
    record {
      exchange = c.exchange (confined (reset_bank setup.reset));
      any_order = c.any_order (confined (reset_bank setup.reset));
      any_submissions = c.any_submissions (confined (reset_bank setup.reset));
      by_hand = c.by_hand (confined (reset_bank setup.reset));
      engine_order = λ calls calls' memory same. of-engine setup ring A calls calls' memory (c.any_order (confined (reset_bank setup.reset)) calls calls' memory same);
      engine_submissions = λ calls calls' memory all all' same.
          of-engine setup ring A calls calls' memory (c.any_submissions (confined (reset_bank setup.reset)) calls calls' memory all all' same);
    }
