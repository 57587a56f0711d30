-- A record's bytes stand for that record.
use mathlib.Core.Path.{◌≡◌, refl}
use mathlib.Core.Bool.{Bool, true, false}
use mathlib.Core.List.{List, [], ◌∷◌}
use Prim.Native.Nat.{ℕ, ◌+◌}
use native.Mathlib.Omega.{arith}
use lib.ListN.{length, get_or}
use lib.Dec.{eqb, leb}
use borrow.Author.Tests.{eq-eqb}
use Rattle.std.proofs.Common.{Option, Some, None}
use Rattle.reset.specs.Reset.{is_rule_number}
use Rattle.reset.proofs.Numbers.{rule-back, own-number}
use Rattle.engine_record.specs.declared.Batch.{Batch}
use Rattle.engine_record.specs.declared.Client.{Client}
use Rattle.engine_record.specs.declared.EngineRecord.{EngineRecord}
use Rattle.engine_record.specs.Slots.{free}
use Rattle.engine_record.specs.Clients.{no_client}
use Rattle.record_bytes.specs.declared.Row.{Row}
use Rattle.record_bytes.specs.Layout.{word_at}
use Rattle.record_bytes.specs.Written.{flag_of, row_of, row_at, words_of, bytes_of}
use Rattle.record_bytes.specs.Read.{slot_right, slots_right, fixed_right, is_record, setup_in, slot_in, clients_in, slots_in, staged_in, record_in, record_of}
use Rattle.record_bytes.specs.RoundTrip.{AllSlots, SlotFitsWords, Typed, RecordFitsWords}
use Rattle.record_bytes.proofs.Cases.{length_record}
use Rattle.record_bytes.proofs.Words.{low-is, slot_at, record_words}

-- ---- lists of four and of eight

four_are : (cs : List Client) → length cs ≡ 4 → get_or cs 0 no_client ∷ get_or cs 1 no_client ∷ get_or cs 2 no_client ∷ get_or cs 3 no_client ∷ [] ≡ cs
four_are (a ∷ b ∷ c ∷ d ∷ []) n = refl
four_are [] n = absurd (omega arith)
four_are (a ∷ []) n = absurd (omega arith)
four_are (a ∷ b ∷ []) n = absurd (omega arith)
four_are (a ∷ b ∷ c ∷ []) n = absurd (omega arith)
four_are (a ∷ b ∷ c ∷ d ∷ e ∷ cs) n = absurd (omega arith)

eight_are : (ss : List (Option Batch)) → length ss ≡ 8 →
    get_or ss 0 free ∷ get_or ss 1 free ∷ get_or ss 2 free ∷ get_or ss 3 free ∷ get_or ss 4 free ∷ get_or ss 5 free ∷ get_or ss 6 free ∷ get_or ss 7 free ∷ [] ≡ ss
eight_are (a ∷ b ∷ c ∷ d ∷ e ∷ f ∷ g ∷ h ∷ []) n = refl
eight_are [] n = absurd (omega arith)
eight_are (a ∷ []) n = absurd (omega arith)
eight_are (a ∷ b ∷ []) n = absurd (omega arith)
eight_are (a ∷ b ∷ c ∷ []) n = absurd (omega arith)
eight_are (a ∷ b ∷ c ∷ d ∷ []) n = absurd (omega arith)
eight_are (a ∷ b ∷ c ∷ d ∷ e ∷ []) n = absurd (omega arith)
eight_are (a ∷ b ∷ c ∷ d ∷ e ∷ f ∷ []) n = absurd (omega arith)
eight_are (a ∷ b ∷ c ∷ d ∷ e ∷ f ∷ g ∷ []) n = absurd (omega arith)
eight_are (a ∷ b ∷ c ∷ d ∷ e ∷ f ∷ g ∷ h ∷ i ∷ ss) n = absurd (omega arith)

-- ---- a client's flag

flag_small : (opened : Bool) → leb (flag_of opened) 1 ≡ true
flag_small true = refl
flag_small false = refl

flag_is : (opened : Bool) → eqb (flag_of opened) 1 ≡ opened
flag_is true = refl
flag_is false = refl

-- ---- a slot's row, wherever it stands

abbrev Stands : List ℕ → ℕ → Row → Type 0
Stands ws k s = (word_at ws k ≡ s.tag) × (word_at ws (k + 1) ≡ s.client) × (word_at ws (k + 2) ≡ s.ticket) × (word_at ws (k + 3) ≡ s.offset) × (word_at ws (k + 4) ≡ s.length)

row_right : (ws : List ℕ) (k : ℕ) (s : Option Batch) → Stands ws k (row_of s) → slot_right ws k ≡ true
row_right ws k s h = go s h
  where
    go : (st : Option Batch) → Stands ws k (row_of (st)) → slot_right ws k ≡ true
    go None h = rw (h.0, h.1, h.2, h.3, h.4)
    go (Some b) h = rw h.0

row_back : (ws : List ℕ) (k : ℕ) (s : Option Batch) → SlotFitsWords s → Stands ws k (row_of s) → slot_in ws k ≡ s
unfolding slot_in
row_back ws k s small h = go s small h
  where
    go : (st : Option Batch) → SlotFitsWords st → Stands ws k (row_of (st)) → slot_in ws k ≡ st
    go None small h = rw h.0
    go (Some b) small h = rw (h.0, h.1, h.2, h.3, h.4, low-is b.offset small.0, low-is b.length small.1)

-- ---- the words of a record

module _ (r : EngineRecord) where
  abbrev at : ℕ → Option Batch
  at i = get_or r.slots i free

  -- a client's flag, written and read
  abbrev flag : ℕ → Bool
  flag i = (get_or r.clients i no_client).opened

  fixed : fixed_right (words_of r) ≡ true
  unfolding fixed_right words_of
  fixed = rw (flag_small (flag 0), flag_small (flag 1), flag_small (flag 2), flag_small (flag 3))

  rule : is_rule_number (word_at (words_of r) 3) ≡ true
  unfolding words_of
  rule = own-number r.setup.reset

  s0 : Stands (words_of r) 24 (row_at r.slots 0)
  unfolding words_of
  s0 = (refl, refl, refl, refl, refl)

  s1 : Stands (words_of r) 29 (row_at r.slots 1)
  unfolding words_of
  s1 = (refl, refl, refl, refl, refl)

  s2 : Stands (words_of r) 34 (row_at r.slots 2)
  unfolding words_of
  s2 = (refl, refl, refl, refl, refl)

  s3 : Stands (words_of r) 39 (row_at r.slots 3)
  unfolding words_of
  s3 = (refl, refl, refl, refl, refl)

  s4 : Stands (words_of r) 44 (row_at r.slots 4)
  unfolding words_of
  s4 = (refl, refl, refl, refl, refl)

  s5 : Stands (words_of r) 49 (row_at r.slots 5)
  unfolding words_of
  s5 = (refl, refl, refl, refl, refl)

  s6 : Stands (words_of r) 54 (row_at r.slots 6)
  unfolding words_of
  s6 = (refl, refl, refl, refl, refl)

  s7 : Stands (words_of r) 59 (row_at r.slots 7)
  unfolding words_of
  s7 = (refl, refl, refl, refl, refl)

  slots_right_lem : slots_right (words_of r) ≡ true
  unfolding slots_right
  slots_right_lem =
      let ws : List ℕ = words_of r in
      rw (
        row_right ws 24 (at 0) s0,
        row_right ws 29 (at 1) s1,
        row_right ws 34 (at 2) s2,
        row_right ws 39 (at 3) s3,
        row_right ws 44 (at 4) s4,
        row_right ws 49 (at 5) s5,
        row_right ws 54 (at 6) s6,
        row_right ws 59 (at 7) s7,
      )

  slots-back : AllSlots SlotFitsWords r.slots → length r.slots ≡ 8 → slots_in (words_of r) ≡ r.slots
  unfolding slots_in
  slots-back small n =
      let ws : List ℕ = words_of r in
      let sm : (i : ℕ) → SlotFitsWords (at i) = slot_at SlotFitsWords tt r.slots small in
      rw (
        row_back ws 24 (at 0) (sm 0) s0,
        row_back ws 29 (at 1) (sm 1) s1,
        row_back ws 34 (at 2) (sm 2) s2,
        row_back ws 39 (at 3) (sm 3) s3,
        row_back ws 44 (at 4) (sm 4) s4,
        row_back ws 49 (at 5) (sm 5) s5,
        row_back ws 54 (at 6) (sm 6) s6,
        row_back ws 59 (at 7) (sm 7) s7,
      )
      (eight_are r.slots n)

  clients-back : length r.clients ≡ 4 → clients_in (words_of r) ≡ r.clients
  unfolding clients_in words_of
  clients-back n = rw (flag_is (flag 0), flag_is (flag 1), flag_is (flag 2), flag_is (flag 3)) (four_are r.clients n)

  numbers-back : RecordFitsWords r →
      record { setup = setup_in (words_of r); clients = r.clients; slots = r.slots; read_offset = word_at (words_of r) 5; next_ticket = word_at (words_of r) 6; staged = staged_in (words_of r) } ≡ r
  unfolding words_of
  numbers-back s =
      rw (
        low-is r.setup.ring s.ring,
        low-is r.setup.memory s.memory,
        low-is r.setup.common s.common,
        low-is r.read_offset s.read_offset,
        rule-back r.setup.reset,
        low-is r.staged.slot s.staged.0,
        low-is r.staged.total s.staged.1,
        low-is r.staged.received s.staged.2,
      )

  words_stand : Typed r → RecordFitsWords r → record_in (words_of r) ≡ r
  unfolding record_in
  words_stand t s = rw (slots-back s.slots t.eight, clients-back t.four) (numbers-back s)

  is_record_lem : Typed r → is_record (bytes_of r) ≡ true
  unfolding is_record
  is_record_lem t = rw (eq-eqb (length (bytes_of r)) 272 (length_record r), record_words r t, rule, fixed, slots_right_lem)

  pub back : Typed r → RecordFitsWords r → record_of (bytes_of r) ≡ r
  unfolding record_of
  back t s = rw (is_record_lem t, record_words r t) (words_stand t s)
