-- A replay file read as records (01, "Writer and replay": "version byte 1, then records of a big-endian 32-bit length, a desk byte and a
-- batch; the length counts both"), of either edition (02, request 14: "Edition 2 begins with version byte 2; each record carries after the desk
-- byte a big-endian 32-bit word with the reader's score bits, and its length counts it"). The editions differ in the version byte and in the
-- lengths that a record may have.
use Rattle.std.specs.Prelude.{List, [], ◌∷◌, Bool, cond, ◌||◌, ℕ, zero, suc, ◌+◌, ◌-◌, length, get_or, take, drop, ltb, eqb}
use Rattle.word.specs.Word.{be32_at}
use Rattle.records.specs.declared.Edition.{Edition}
use Rattle.records.specs.declared.Edition.TheVariants.{First, Second}

-- the version byte of an edition
abbrev pub version_of : Edition → ℕ
version_of First = 1
version_of Second = 2

-- a record of the file: a client (the paper's desk) and what follows it: a batch; in edition 2 the score's word stands before the batch
pub record Entry : Type 0 where
  pub client : ℕ
  pub batch : List ℕ

-- how a file ends: after a whole record, or after the version byte; or with what its last line says
pub data FileEnd : Type 0 where
  whole : FileEnd
  bad_version : FileEnd
  bad_record : FileEnd
  cut_record : FileEnd

pub record File : Type 0 where
  pub entries : List Entry
  pub ending : FileEnd

-- no record more
abbrev pub file_ends : FileEnd → File
file_ends ending = record { entries = []; ending = ending }

-- this record, and then the rest
abbrev pub cons_entry : Entry → File → File
cons_entry entry rest = record { entries = entry ∷ rest.entries; ending = rest.ending }

-- the length that stands before a record
abbrev pub length_field : List ℕ → ℕ
length_field bytes = be32_at bytes 0

-- "length 0 or over 32,769"; "an edition 2 length under 5 or over 32,773"
abbrev pub bad_size : Edition → ℕ → Bool
bad_size First size = eqb size 0 || ltb 32769 size
bad_size Second size = ltb size 5 || ltb 32773 size

-- the record whose length stands at the start of the bytes: a byte for the client, and the batch
abbrev pub entry_of : List ℕ → Entry
entry_of bytes = record { client = get_or bytes 4 0; batch = take (length_field bytes - 1) (drop 5 bytes) }

-- the records from here on, with fuel for as many; as many as there are bytes suffice. An end inside the four bytes of a length cuts the
-- record; the length is "judged before the rest is read"; "an end after a whole record prints nothing more"
unfoldable pub records_from : Edition → (fuel : ℕ) → List ℕ → File
records_from edition zero bytes = file_ends whole
records_from edition (suc fuel) [] = file_ends whole
records_from edition (suc fuel) (byte ∷ more) =
    let bytes : List ℕ = byte ∷ more in
    cond (ltb (length bytes) 4) (file_ends cut_record)
    (cond (bad_size edition (length_field bytes)) (file_ends bad_record)
    (cond (ltb (length bytes) (4 + length_field bytes)) (file_ends cut_record)
    (cons_entry (entry_of bytes) (records_from edition fuel (drop (4 + length_field bytes) bytes)))))

-- a whole file; "an empty file prints `bad version`"
unfoldable pub records : Edition → List ℕ → File
records edition [] = file_ends bad_version
records edition (version ∷ bytes) = cond (eqb version (version_of edition)) (records_from edition (length bytes) bytes) (file_ends bad_version)
