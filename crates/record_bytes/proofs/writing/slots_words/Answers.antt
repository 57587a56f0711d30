use Rattle.record_bytes.proofs.writing.slots_words.Goals as goal

pub returns : goal.returns
returns c =
    simp (c.slot_words-8.ensures, c.slot_words-7.ensures, c.slot_words-6.ensures, c.slot_words-5.ensures, c.slot_words-4.ensures, c.slot_words-3.ensures, c.slot_words-2.ensures, c.slot_words.ensures)
