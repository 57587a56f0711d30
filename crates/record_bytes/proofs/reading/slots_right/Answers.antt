use Rattle.record_bytes.specs.Read.{slots_right}
use Rattle.record_bytes.proofs.reading.slots_right.Goals as goal

pub returns : goal.returns
unfolding slots_right
returns c =
    simp (c.slot_right-8.ensures, c.slot_right-7.ensures, c.slot_right-6.ensures, c.slot_right-5.ensures, c.slot_right-4.ensures, c.slot_right-3.ensures, c.slot_right-2.ensures, c.slot_right.ensures)
