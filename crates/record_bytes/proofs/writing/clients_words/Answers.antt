use Rattle.record_bytes.proofs.writing.clients_words.Goals as goal

pub returns : goal.returns
returns c = simp (c.client_words-4.ensures, c.client_words-3.ensures, c.client_words-2.ensures, c.client_words.ensures)
