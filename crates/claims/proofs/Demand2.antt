-- Demand 2 holds.
use mathlib.Core.Path.{◌≡◌}
use mathlib.Core.List.{List}
use Prim.Native.Nat.{ℕ, ◌<◌}
use native.Mathlib.Omega.{arith}
use Rattle.batch.specs.Batch.{with_fault}
use Rattle.register.specs.declared.bank.Bank.{Bank}
use Rattle.task_check.specs.declared.fault.Fault.{Fault}
use Rattle.task_check.specs.declared.task.Bounds.{Bounds}
use Rattle.batch.proofs.DecoderCases.{words_fit}
use Rattle.batch.proofs.Tasks.{faultless_marks}
use Rattle.batch.proofs.Offsets.{fault-inside}
use Rattle.encoder.proofs.Buffer.{front, others, length-after}
use Rattle.encoder.proofs.ReadsBack.{reads_back}
use Rattle.raster.proofs.Fold.{batch-tasks}
use Rattle.raster.proofs.Outside.{writes}
use Rattle.queue.specs.Refusals.{first_refusal}
use Rattle.engine.specs.Run.{oldest, bounds_of_client, oldest_words, reset_of, oldest_verdict}
use Rattle.model.specs.Calls.{run}
use Rattle.claims.specs.Engine.{State, perform_call}
use Rattle.claims.specs.Demand1.{refusal_table_of}
use Rattle.claims.specs.Demand2.{OfBatch, run_performed, Demand2}
use Rattle.claims.proofs.Confined.{confined}
use Rattle.claims.proofs.Standing.{standing-before}
use Rattle.claims.proofs.Cases.{either, by_number}

of-batch : (bounds : Bounds) (bank : Bank) (words memory : List ℕ) → OfBatch bounds bank words memory
of-batch bounds bank words memory = record {
  drawn = batch-tasks bounds bank words memory;
  stands = standing-before bounds bank words memory;
  writes = writes bounds bank words memory;
  tasks = faultless_marks bounds bank words;
  place = fault-inside bounds bank words;
}

module _ (s : State) where
  executes : first_refusal (refusal_table_of run s) ≡ 0 → perform_call run s ≡ run_performed s
  unfolding either
  executes z = rw (by_number run s, z)

  place : (tasks : ℕ) (fault : Fault) (offset : ℕ) → oldest_verdict s.engine s.ring ≡ with_fault tasks fault offset → offset < (oldest s.engine).length
  place tasks fault offset e =
      let batch = oldest s.engine in
      let low = fault-inside (bounds_of_client s.engine batch.client) (reset_of s.engine) (oldest_words s.engine s.ring) tasks fault offset e in
      omega (arith, low, words_fit s.ring batch.offset batch.length)

pub demand2 : Demand2
demand2 = record {
  batch = of-batch;
  confined = confined;
  runs = λ s. record { executes = executes s; place = place s };
  filled = λ form buffer. record { size = length-after form buffer; front = front form buffer; others = others form buffer };
  reads_back = reads_back;
}
