-- The claims of the model.
use Prim.Native.Nat.{ℕ}
use Rattle.register.specs.Bank.{reset_bank}
use Rattle.model.specs.Calls.{Setup}
use Rattle.model.proofs.Theorems.{claims}
use Rattle.claims.specs.ModelProperties.{ModelPropertiesHold, batch_semantics}
use Rattle.claims.proofs.Confined.{confined}

pub of-model : (setup : Setup) (ring : ℕ) → ModelPropertiesHold setup ring
of-model setup ring =
    let c = claims (batch_semantics setup) setup ring in
    record {
      separate = c.separate (confined (reset_bank setup.reset));
      noninterference = c.noninterference (confined (reset_bank setup.reset));
      lowest = c.lowest;
      tenanted = c.tenanted;
      in_order = c.in_order;
      in_time = c.in_time;
      refused_no_change = c.refused_no_change;
      quiet = c.quiet;
      cutting = c.cutting;
    }
