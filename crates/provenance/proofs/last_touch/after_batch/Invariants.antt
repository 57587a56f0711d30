use Prim.Native.Nat.{◌-◌, ◌≤◌}
use mathlib.Core.Path.{◌≡◌}
use lib.ListN.{length}
use Rattle.records.specs.declared.Edition.TheVariants.{First}
use Rattle.lines.specs.Lines.{file_reset}
use Rattle.batch.specs.Batch.{decode_batch, tasks_drawn}
use Rattle.batch.specs.Walk.{words_in, reading_left, tasks_left}
use Rattle.provenance.specs.Drawn.{numbered}
use Rattle.provenance.specs.Touched.{last_from}
use Rattle.provenance.proofs.last_touch.Batch.{rest_from}
use Rattle.provenance.proofs.last_touch.after_batch.Given as goal

abbrev pub invariant-loop-task : goal.invariant-loop-task
invariant-loop-task l =
    (l.number ≡ l.tasks.count)
    × (last_from l.fn.found l.i (numbered l.ticket 0 (tasks_drawn (decode_batch l.fn.bounds (file_reset First) (words_in l.fn.batch)))) ≡ rest_from l.i l.ticket l.number l.last (reading_left l.tasks))

abbrev pub decreases-loop-task : goal.decreases-loop-task
decreases-loop-task l = length (tasks_left l.tasks)
