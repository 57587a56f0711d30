use mathlib.Core.Path.{◌≡◌}
use lib.ListN.{length}
use Rattle.ring.specs.Segment.{batch_words}
use Rattle.register.specs.Bank.{reset_bank}
use Rattle.batch.specs.Batch.{decode_batch}
use Rattle.batch.specs.Walk.{reading_left, tasks_left}
use Rattle.tally.specs.Running.{ran_plus, rest_plus}
use Rattle.tally_pieces.proofs.add_batch.Given as goal

abbrev pub invariant-loop-task : goal.invariant-loop-task
invariant-loop-task l =
    ran_plus (decode_batch l.fn.bounds (reset_bank l.fn.rule) (batch_words l.fn.batch 0 (length l.fn.batch))) l.fn.running ≡ rest_plus (reading_left l.tasks) l.so_far

abbrev pub decreases-loop-task : goal.decreases-loop-task
decreases-loop-task l = length (tasks_left l.tasks)
