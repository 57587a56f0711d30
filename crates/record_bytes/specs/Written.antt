-- The bytes of a record.
use Rattle.std.specs.Prelude.{Bool, cond, List, [], ◌∷◌, ◌++◌, ℕ, length, get_or, eqb, Option, Some, None}
use Rattle.reset.specs.Reset.{reset_number_of}
use Rattle.word.specs.Word.{words_bytes}
use Rattle.engine_record.specs.declared.Client.{Client}
use Rattle.engine_record.specs.declared.Batch.{Batch}
use Rattle.engine_record.specs.declared.EngineRecord.{EngineRecord}
use Rattle.engine_record.specs.declared.Staged.{Staged}
use Rattle.engine_record.specs.Slots.{free}
use Rattle.engine_record.specs.Tickets.{batch_in_state}
use Rattle.engine_record.specs.Clients.{no_client}
use Rattle.record_bytes.specs.declared.Row.{Row}
use Rattle.record_bytes.specs.Layout.{low}

abbrev pub head_words : EngineRecord → List ℕ
head_words r = low r.setup.ring ∷ low r.setup.memory ∷ low r.setup.common ∷ reset_number_of r.setup.reset ∷ 0 ∷ low r.read_offset ∷ r.next_ticket ∷ 0 ∷ []

-- open or not
abbrev pub flag_of : Bool → ℕ
flag_of opened = cond opened 1 0

abbrev pub client_words : Client → List ℕ
client_words c = c.window.start ∷ c.window.length ∷ c.pending ∷ flag_of c.opened ∷ []

abbrev pub staged_words : Staged → List ℕ
staged_words g = g.client ∷ low g.slot ∷ low g.total ∷ low g.received ∷ []

abbrev pub tag_of : Option Batch → ℕ
tag_of None = 0
tag_of (Some b) = 1

-- a slot's numbers; those of a free one are zeros, as its `batch_in_state` is
abbrev pub row_of : Option Batch → Row
row_of s =
    let b : Batch = batch_in_state s in
    record { tag = tag_of s; client = b.client; ticket = b.ticket; offset = low b.offset; length = low b.length }

abbrev pub row_words : Row → List ℕ
row_words s = s.tag ∷ s.client ∷ s.ticket ∷ s.offset ∷ s.length ∷ []

abbrev pub clients_words : List Client → List ℕ
clients_words cs =
    client_words (get_or cs 0 no_client) ++ (client_words (get_or cs 1 no_client) ++ (client_words (get_or cs 2 no_client) ++ client_words (get_or cs 3 no_client)))

abbrev pub row_at : List (Option Batch) → ℕ → Row
row_at ss i = row_of (get_or ss i free)

abbrev pub slots_words : List (Option Batch) → List ℕ
slots_words ss =
    row_words (row_at ss 0) ++ (row_words (row_at ss 1) ++ (row_words (row_at ss 2) ++ (row_words (row_at ss 3)
    ++ (row_words (row_at ss 4) ++ (row_words (row_at ss 5) ++ (row_words (row_at ss 6) ++ row_words (row_at ss 7)))))))

unfoldable pub words_of : EngineRecord → List ℕ
words_of r = head_words r ++ (clients_words r.clients ++ (slots_words r.slots ++ staged_words r.staged))

unfoldable pub bytes_of : EngineRecord → List ℕ
bytes_of r = words_bytes (words_of r)

-- Internal: a buffer of another length stays as it was
unfoldable pub written : EngineRecord → List ℕ → List ℕ
written r bytes = cond (eqb (length bytes) 272) (bytes_of r) bytes
