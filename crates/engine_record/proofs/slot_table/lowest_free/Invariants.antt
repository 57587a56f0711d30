use Rattle.std.proofs.Common.{◌≡◌, ◌+◌, drop}
use Rattle.engine_record.specs.Slots.{lowest_free}
use Rattle.engine_record.proofs.slot_table.lowest_free.Given as goal

abbrev pub invariant-loop-at : goal.invariant-loop-at
invariant-loop-at l = l.at + lowest_free (drop l.at l.slots) ≡ lowest_free l.slots
