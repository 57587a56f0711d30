-- The claims hold.
use Prim.Native.Nat.{ℕ}
use Rattle.model.specs.Calls.{Setup}
use Rattle.model.specs.BatchSemantics.{BatchSemantics}
use Rattle.model.specs.Properties.{ModelProperties}
use Rattle.model.proofs.ReplayedAlone as alone
use Rattle.model.proofs.Noninterference as two_runs
use Rattle.model.proofs.Tenancies as tenancies
use Rattle.model.proofs.Sound as sound
use Rattle.model.proofs.Order as order
use Rattle.model.proofs.Queue as queue
use Rattle.model.proofs.Refusals as refusals
use Rattle.model.proofs.Cutting as pieces

pub claims : (way : BatchSemantics) (setup : Setup) (ring : ℕ) → ModelProperties way setup ring
claims way setup ring = record {
  separate = λ confined calls memory. alone.separate way confined setup ring memory calls;
  noninterference = λ confined. two_runs.noninterference way confined setup ring;
  exchange = λ confined. order.exchange way confined setup ring;
  any_order = λ confined. order.any_order way confined setup ring;
  any_submissions = λ confined. order.any_submissions way confined setup ring;
  by_hand = λ confined. order.by_hand way confined setup ring;
  lowest = tenancies.lowest way setup ring;
  tenanted = sound.tenanted way setup ring;
  in_order = queue.in_order way setup ring;
  in_time = queue.in_time way setup ring;
  refused_no_change = refusals.refused_no_change way setup ring;
  quiet = refusals.quiet-refusal way setup ring;
  cutting = pieces.cutting way setup ring;
}
