use Rattle.record_bytes.specs.Read.{record_in}
use Rattle.record_bytes.proofs.reading.record_in.Goals as goal

pub returns : goal.returns
unfolding record_in
returns c =
    simp (c.staged_in.ensures, c.word_at.ensures, c.size_at.ensures, c.slots_in.ensures, c.clients_in.ensures, c.setup_in.ensures)
