-- A record's bytes stand for that record, and bytes that are no record for one that no call takes. proofs/RoundTrip.antt, proofs/Fitting.antt,
-- proofs/Canonical.antt and proofs/Cases.antt prove the promises.
use Rattle.std.specs.Prelude.{◌≡◌, true, false, List, [], ◌∷◌, ℕ, ◌<◌, ◌^◌, length, Option, Some, None}
use Rattle.word.specs.Word.{AllBytes}
use Rattle.engine_record.specs.declared.Client.{Client}
use Rattle.engine_record.specs.declared.Batch.{Batch}
use Rattle.engine_record.specs.declared.EngineRecord.{EngineRecord}
use Rattle.engine_record.specs.Rules.{valid}
use Rattle.record_bytes.specs.Written.{bytes_of}
use Rattle.record_bytes.specs.Read.{is_record, record_of}

abbrev pub AllClients : (Client → Type 0) → List Client → Type 0
AllClients P [] = Unit {0}
AllClients P (c ∷ cs) = P c × AllClients P cs

abbrev pub AllSlots : (Option Batch → Type 0) → List (Option Batch) → Type 0
AllSlots P [] = Unit {0}
AllSlots P (s ∷ ss) = P s × AllSlots P ss

-- ---- what the code's types say of any record: four clients, eight slots, and each u32 below 2 ^ 32

abbrev pub ClientTyped : Client → Type 0
ClientTyped c = (c.window.start < 2 ^ 32) × (c.window.length < 2 ^ 32) × (c.pending < 2 ^ 32)

abbrev pub StateTyped : Option Batch → Type 0
StateTyped None = Unit {0}
StateTyped (Some b) = (b.client < 2 ^ 32) × (b.ticket < 2 ^ 32)

pub record Typed (r : EngineRecord) : Type 0 where
  pub four : length r.clients ≡ 4
  pub eight : length r.slots ≡ 8
  pub clients : AllClients ClientTyped r.clients
  pub slots : AllSlots StateTyped r.slots
  pub next_ticket : r.next_ticket < 2 ^ 32
  pub staged : r.staged.client < 2 ^ 32

-- ---- the other numbers fit in words too

abbrev pub SlotFitsWords : Option Batch → Type 0
SlotFitsWords None = Unit {0}
SlotFitsWords (Some b) = (b.offset < 2 ^ 32) × (b.length < 2 ^ 32)

pub record RecordFitsWords (r : EngineRecord) : Type 0 where
  pub ring : r.setup.ring < 2 ^ 32
  pub memory : r.setup.memory < 2 ^ 32
  pub common : r.setup.common < 2 ^ 32
  pub read_offset : r.read_offset < 2 ^ 32
  pub slots : AllSlots SlotFitsWords r.slots
  pub staged : (r.staged.slot < 2 ^ 32) × (r.staged.total < 2 ^ 32) × (r.staged.received < 2 ^ 32)

-- ---- the promises

pub record RoundTrip (r : EngineRecord) : Type 0 where
  -- every record whose numbers fit
  pub back : Typed r → RecordFitsWords r → record_of (bytes_of r) ≡ r
  -- those of a valid record do
  pub fits : Typed r → valid r ≡ true → RecordFitsWords r

-- ---- the other way: what is taken for a record is the bytes of that record, so that one record has one form

abbrev pub Canonical : (bytes : List ℕ) → Type 0
Canonical bytes = AllBytes bytes → is_record bytes ≡ true → bytes_of (record_of bytes) ≡ bytes

-- ---- what is no record, a buffer of another length included, breaks a rule: every call refuses it with 11

abbrev pub Untrusted : (bytes : List ℕ) → Type 0
Untrusted bytes = is_record bytes ≡ false → valid (record_of bytes) ≡ false
