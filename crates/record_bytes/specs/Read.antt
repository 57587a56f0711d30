-- The record that bytes stand for. What is no record at all stands for one that breaks the first rule, so that every call refuses it with 11.
use Rattle.std.specs.Prelude.{Bool, cond, ◌&&◌, ◌||◌, List, [], ◌∷◌, ℕ, ◌+◌, length, eqb, leb, Option}
use Rattle.reset.specs.declared.ResetRule.TheVariants.{Unblended}
use Rattle.reset.specs.Reset.{is_rule_number, rule_of}
use Rattle.word.specs.Word.{words}
use Rattle.engine_record.specs.declared.Setup.{Setup}
use Rattle.engine_record.specs.declared.Client.{Client}
use Rattle.engine_record.specs.declared.Batch.{Batch}
use Rattle.engine_record.specs.declared.EngineRecord.{EngineRecord}
use Rattle.engine_record.specs.declared.Staged.{Staged}
use Rattle.engine_record.specs.Staged.{no_staged}
use Rattle.engine_record.specs.Slots.{free, ready_with}
use Rattle.engine_record.specs.Clients.{no_client}
use Rattle.record_bytes.specs.Layout.{word_at}

-- ---- which bytes are a record

-- a slot's words: ready, or free and all zero
abbrev pub slot_right : List ℕ → ℕ → Bool
slot_right ws k =
    eqb (word_at ws k) 1
    || (eqb (word_at ws k) 0 && eqb (word_at ws (k + 1)) 0 && eqb (word_at ws (k + 2)) 0 && eqb (word_at ws (k + 3)) 0 && eqb (word_at ws (k + 4)) 0)

unfoldable pub slots_right : List ℕ → Bool
slots_right ws =
    slot_right ws 24 && slot_right ws 29 && slot_right ws 34 && slot_right ws 39
    && slot_right ws 44 && slot_right ws 49 && slot_right ws 54 && slot_right ws 59

-- the words that are kept for later are zero, and a client is open or not (02, 11): a third value is none
unfoldable pub fixed_right : List ℕ → Bool
fixed_right ws =
    eqb (word_at ws 4) 0 && eqb (word_at ws 7) 0
    && leb (word_at ws 11) 1 && leb (word_at ws 15) 1 && leb (word_at ws 19) 1 && leb (word_at ws 23) 1

-- a third reset rule is none
unfoldable pub is_record : (bytes : List ℕ) → Bool
is_record bytes = eqb (length bytes) 272 && (is_rule_number (word_at (words bytes) 3) && fixed_right (words bytes) && slots_right (words bytes))

-- ---- what they stand for

abbrev pub setup_in : List ℕ → Setup
setup_in ws = record { ring = word_at ws 0; memory = word_at ws 1; common = word_at ws 2; reset = rule_of (word_at ws 3) }

abbrev pub client_in : List ℕ → ℕ → Client
client_in ws k = record { window = record { start = word_at ws k; length = word_at ws (k + 1) }; pending = word_at ws (k + 2); opened = eqb (word_at ws (k + 3)) 1 }

abbrev pub batch_in : List ℕ → ℕ → Batch
batch_in ws k = record { client = word_at ws (k + 1); ticket = word_at ws (k + 2); offset = word_at ws (k + 3); length = word_at ws (k + 4) }

unfoldable pub slot_in : List ℕ → ℕ → Option Batch
slot_in ws k = cond (eqb (word_at ws k) 0) free (ready_with (batch_in ws k))

unfoldable pub clients_in : List ℕ → List Client
clients_in ws = client_in ws 8 ∷ client_in ws 12 ∷ client_in ws 16 ∷ client_in ws 20 ∷ []

unfoldable pub slots_in : List ℕ → List (Option Batch)
slots_in ws =
    slot_in ws 24 ∷ slot_in ws 29 ∷ slot_in ws 34 ∷ slot_in ws 39
    ∷ slot_in ws 44 ∷ slot_in ws 49 ∷ slot_in ws 54 ∷ slot_in ws 59 ∷ []

-- what breaks a rule of its own is refused with 11 by the record rules
abbrev pub staged_in : List ℕ → Staged
staged_in ws = record { client = word_at ws 64; slot = word_at ws 65; total = word_at ws 66; received = word_at ws 67 }

unfoldable pub record_in : List ℕ → EngineRecord
record_in ws = record {
  setup = setup_in ws;
  clients = clients_in ws;
  slots = slots_in ws;
  read_offset = word_at ws 5;
  next_ticket = word_at ws 6;
  staged = staged_in ws;
}

-- a record of no engine
unfoldable pub no_record : EngineRecord
no_record = record {
  setup = record { ring = 0; memory = 0; common = 0; reset = Unblended };
  clients = no_client ∷ no_client ∷ no_client ∷ no_client ∷ [];
  slots = free ∷ free ∷ free ∷ free ∷ free ∷ free ∷ free ∷ free ∷ [];
  read_offset = 0;
  next_ticket = 0;
  staged = no_staged;
}

unfoldable pub record_of : (bytes : List ℕ) → EngineRecord
record_of bytes = cond (is_record bytes) (record_in (words bytes)) no_record
