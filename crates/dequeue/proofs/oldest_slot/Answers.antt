use native.Mathlib.Omega.{arith}
use Rattle.dequeue.proofs.oldest_slot.Goals as goal

pub slot_of_age-requires : goal.slot_of_age-requires
slot_of_age-requires c = omega (arith, c.requires.0, c.requires.1)

pub returns : goal.returns
returns c = rw c.requires.1 at c.slot_of_age.ensures
