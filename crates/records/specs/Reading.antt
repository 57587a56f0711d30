-- A file read a piece at a time, whatever its pieces: at each moment it is the records that were handed out, and then those of the bytes that
-- are held and of those to come.
use Rattle.std.specs.Prelude.{◌≡◌, List, [], ◌∷◌, ◌++◌, Bool, cond, ◌&&◌, ℕ, zero, suc, ◌+◌, ◌-◌, ◌≤◌, ◌<◌, length, get_or, take, drop, eqb, leb, ltb}
use Rattle.word.specs.Splice.{spliced}
use Rattle.records.specs.declared.Edition.{Edition}
use Rattle.records.specs.declared.Edition.TheVariants.{First, Second}
use Rattle.records.specs.declared.Stage.{Stage}
use Rattle.records.specs.declared.Stage.TheVariants.{Version, Records, Ended}
use Rattle.records.specs.declared.Reader.{Reader}
use Rattle.records.specs.declared.Found.{Found}
use Rattle.records.specs.declared.Found.TheVariants.{Nothing, Record, BadVersion, BadRecord}
use Rattle.records.specs.declared.Taken.{Taken}
use Rattle.records.specs.Records.{Entry, FileEnd, whole, bad_version, bad_record, cut_record, File, file_ends, cons_entry, version_of, length_field, bad_size, records_from, records}

-- ---- what is to come

abbrev pub file_from : Edition → List ℕ → File
file_from edition bytes = records_from edition (length bytes) bytes

-- the file from a stage on, of which these bytes are held and the rest follows; after its end nothing is looked at
abbrev pub file_in : Edition → Stage → (bytes rest : List ℕ) → File
file_in edition Version bytes rest = records edition rest
file_in edition Records bytes rest = file_from edition (bytes ++ rest)
file_in edition Ended bytes rest = file_ends whole

abbrev pub file_at : Edition → Reader → (held rest : List ℕ) → File
file_at edition r held rest = file_in edition r.stage (take r.buffered held) rest

-- a whole record that lies in the buffer, after the four bytes of its length, up to `end`
abbrev pub entry_in : (held : List ℕ) → (end : ℕ) → Entry
entry_in held end = record { client = get_or held 4 0; batch = take (end - 5) (drop 5 held) }

-- what was found, and then the rest: of a file that ended so there is none
abbrev pub onto : Found → (held : List ℕ) → File → File
onto Nothing held rest = rest
onto (Record end) held rest = cons_entry (entry_in held end) rest
onto BadVersion held rest = record { entries = rest.entries; ending = bad_version }
onto BadRecord held rest = record { entries = rest.entries; ending = bad_record }

-- ---- a reader that may go on

-- how many bytes are missing to the next thing to decide
unfoldable pub bytes_wanted : Edition → List ℕ → ℕ
bytes_wanted edition bytes =
    cond (ltb (length bytes) 4) (4 - length bytes)
    (cond (bad_size edition (length_field bytes)) 0
    (4 + length_field bytes - length bytes))

abbrev pub Due : Edition → Stage → List ℕ → Type 0
Due edition Version bytes = Unit {0}
Due edition Records bytes = 0 < bytes_wanted edition bytes
Due edition Ended bytes = Unit {0}

-- the bytes of the longest record and of its length
abbrev pub room_of : Edition → ℕ
room_of First = 32773
room_of Second = 32777

-- the longest record and its length have room, and nothing that could be decided is left undecided
pub record ReaderReady (edition : Edition) (r : Reader) (held : List ℕ) : Type 0 where
  pub room : room_of edition ≤ length held
  pub few : r.buffered < room_of edition
  pub due : Due edition r.stage (take r.buffered held)

-- ---- one step

-- a file that ended so is not looked at any more
abbrev pub EndedIfBad : Found → Stage → Type 0
EndedIfBad Nothing stage = Unit {0}
EndedIfBad (Record end) stage = Unit {0}
EndedIfBad BadVersion stage = stage ≡ Ended
EndedIfBad BadRecord stage = stage ≡ Ended

pub record Takes (edition : Edition) (r : Reader) (held input : List ℕ) (t : Taken) (held' : List ℕ) : Type 0 where
  -- the bytes that it used, whatever follows them
  pub file : (rest : List ℕ) → file_at edition r held (take t.used input ++ rest) ≡ onto t.found held' (file_at edition t.reader held' rest)
  pub over : EndedIfBad t.found t.reader.stage
  pub ready : ReaderReady edition t.reader held'
  pub some : 1 ≤ length input → 1 ≤ t.used

-- Internal: where the batch begins in the buffer: behind the length and the client, and in edition 2 behind the score
abbrev pub batch_start : Edition → ℕ
batch_start First = 5
batch_start Second = 9

-- Internal: a record that was found lies in the buffer
abbrev pub Lies : Edition → Found → (room : ℕ) → Type 0
Lies edition Nothing room = Unit {0}
Lies edition (Record end) room = (batch_start edition ≤ end) × (end ≤ room)
Lies edition BadVersion room = Unit {0}
Lies edition BadRecord room = Unit {0}

-- how a file ends where no byte follows, with so many bytes of an unfinished record
abbrev pub ending_at : Stage → (have : ℕ) → FileEnd
ending_at Version have = bad_version
ending_at Records zero = whole
ending_at Records (suc have) = cut_record
ending_at Ended have = whole

-- ---- the same step by itself, of any reader, buffer and input

-- what comes of the bytes of a record that are there

abbrev pub wait_for_more : (have used : ℕ) → Taken
wait_for_more have used = record { reader = record { stage = Records; buffered = have }; used = used; found = Nothing }

unfoldable pub after_record_bytes : Edition → List ℕ → (used : ℕ) → Taken
after_record_bytes edition bytes used =
    cond (ltb (length bytes) 4) (wait_for_more (length bytes) used)
    (cond (bad_size edition (length_field bytes)) (record { reader = record { stage = Ended; buffered = 0 }; used = used; found = BadRecord })
    (cond (ltb (length bytes) (4 + length_field bytes)) (wait_for_more (length bytes) used)
    (record { reader = record { stage = Records; buffered = 0 }; used = used; found = Record (4 + length_field bytes) })))

abbrev pub version_taken : Edition → (version : ℕ) → Taken
version_taken edition version =
    cond (eqb version (version_of edition))
    (record { reader = record { stage = Records; buffered = 0 }; used = 1; found = Nothing })
    (record { reader = record { stage = Ended; buffered = 0 }; used = 1; found = BadVersion })

abbrev pub nothing_taken : Reader → (used : ℕ) → Taken
nothing_taken r used = record { reader = r; used = used; found = Nothing }

-- the bytes that it keeps behind those of an unfinished record
abbrev pub kept_in : Edition → Stage → (bytes input : List ℕ) → List ℕ
kept_in edition Version bytes input = []
kept_in edition Records bytes input = take (bytes_wanted edition bytes) input
kept_in edition Ended bytes input = []

abbrev pub record_taken : Edition → (bytes input : List ℕ) → Taken
record_taken edition bytes input = after_record_bytes edition (bytes ++ kept_in edition Records bytes input) (length (kept_in edition Records bytes input))

-- after the end of the file all input is used up
abbrev pub taken_in : Edition → Stage → Reader → (bytes input : List ℕ) → Taken
taken_in edition Version r bytes [] = nothing_taken r 0
taken_in edition Version r bytes (version ∷ more) = version_taken edition version
taken_in edition Records r bytes input = record_taken edition bytes input
taken_in edition Ended r bytes input = nothing_taken r (length input)

-- the longest record and its length fit in the buffer, and an unfinished record may have so many bytes
abbrev pub buffer_suffices : Edition → Reader → (held : List ℕ) → Bool
buffer_suffices edition r held = leb (room_of edition) (length held) && ltb r.buffered (room_of edition)

-- one step, or nothing at all where the buffer does not suffice
unfoldable pub taken_by : Edition → Reader → (held input : List ℕ) → Taken
taken_by edition r held input = cond (buffer_suffices edition r held) (taken_in edition r.stage r (take r.buffered held) input) (nothing_taken r 0)

-- and the buffer after it
unfoldable pub held_after : Edition → Reader → (held input : List ℕ) → List ℕ
held_after edition r held input = cond (buffer_suffices edition r held) (spliced r.buffered (kept_in edition r.stage (take r.buffered held) input) held) held
