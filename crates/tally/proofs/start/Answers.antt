use mathlib.Core.Path.{refl}
use Rattle.tally.proofs.start.Goals as goal

pub returns : goal.returns
returns c = c.start_with.ensures refl
