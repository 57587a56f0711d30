use Rattle.unpremultiply.proofs.Entries.{entries, entries_are}
use Rattle.unpremultiply.proofs.reciprocals.Table.new.Goals as goal

pub invariant_of-result : goal.invariant_of-result
unfolding entries
invariant_of-result c = record { right = entries_are }
