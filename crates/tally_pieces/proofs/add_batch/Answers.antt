use mathlib.Core.Path.{sym, ap, ◌∙◌}
use Rattle.batch.specs.Walk.{reading_left}
use Rattle.tally.specs.Running.{rest_plus}
use Rattle.tally_pieces.proofs.Batch.{one_given, none_given, fault_given}
use Rattle.tally_pieces.proofs.add_batch.Goals as goal

pub loop-task-preserved : goal.loop-task-preserved
loop-task-preserved c =
    let l = c.loop-task in
    let new = c.next.new.self in
    l.invariant
    ∙ one_given l.tasks new l.so_far c.in-Some.task c.in-Some.ensures.steps
    ∙ ap (rest_plus (reading_left new)) (sym c.add_task-so_far.ensures)

pub returns-in-None : goal.returns-in-None
returns-in-None c =
    let l = c.loop-task in
    sym (l.invariant ∙ none_given l.tasks c.next.new.self l.so_far c.in_default.ensures.steps c.in-None.is)

pub returns-in-Some-fault : goal.returns-in-Some-fault
returns-in-Some-fault c =
    let l = c.loop-task in
    c.add_fault.ensures
    ∙ sym (l.invariant ∙ fault_given l.tasks c.next.new.self l.so_far c.in_default.ensures.steps c.in-Some-fault.found c.in-Some-fault.is)
