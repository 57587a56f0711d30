use Rattle.record_bytes.specs.Read.{slots_in}
use Rattle.record_bytes.proofs.reading.slots_in.Goals as goal

pub returns : goal.returns
unfolding slots_in
returns c =
    simp (c.slot_in-8.ensures, c.slot_in-7.ensures, c.slot_in-6.ensures, c.slot_in-5.ensures, c.slot_in-4.ensures, c.slot_in-3.ensures, c.slot_in-2.ensures, c.slot_in.ensures)
