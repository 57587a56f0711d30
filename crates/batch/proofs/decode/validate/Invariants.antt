use mathlib.Core.Path.{◌≡◌}
use lib.ListN.{length}
use Rattle.batch.specs.Batch.{decode_batch, validation_of}
use Rattle.batch.specs.Walk.{words_in, reading_left, tasks_left}
use Rattle.batch.proofs.Steps.{counted}
use Rattle.batch.proofs.decode.validate.Given as goal

abbrev pub invariant-loop : goal.invariant-loop
invariant-loop l = validation_of (decode_batch l.fn.bounds l.fn.bank (words_in l.fn.batch)) ≡ counted l.tasks.count (reading_left l.tasks)

abbrev pub decreases-loop : goal.decreases-loop
decreases-loop l = length (tasks_left l.tasks)
