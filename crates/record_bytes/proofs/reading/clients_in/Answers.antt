use Rattle.record_bytes.specs.Read.{clients_in}
use Rattle.record_bytes.proofs.reading.clients_in.Goals as goal

pub returns : goal.returns
unfolding clients_in
returns c = simp (c.client_in-4.ensures, c.client_in-3.ensures, c.client_in-2.ensures, c.client_in.ensures)
