-- The words of a record's bytes are those that were written.
use mathlib.Core.Path.{◌≡◌}
use mathlib.Core.Bool.{Bool, true, false}
use mathlib.Core.List.{List, [], ◌∷◌}
use Prim.Native.Nat.{ℕ, zero, suc, ◌<◌, ◌^◌}
use native.Mathlib.Omega.{arith}
use lib.ListN.{get_or}
use Rattle.std.proofs.Common.{Option, Some, None}
use Rattle.word.specs.Word.{words}
use Rattle.word.proofs.Words.{Below32, words-back-all}
use Rattle.reset.specs.declared.ResetRule.{ResetRule}
use Rattle.reset.specs.declared.ResetRule.TheVariants.{Unblended, SrcOver}
use Rattle.reset.specs.Reset.{reset_number_of}
use Rattle.engine_record.specs.declared.Batch.{Batch}
use Rattle.engine_record.specs.declared.Client.{Client}
use Rattle.engine_record.specs.declared.Setup.{Setup}
use Rattle.engine_record.specs.declared.Staged.{Staged}
use Rattle.engine_record.specs.declared.EngineRecord.{EngineRecord}
use Rattle.engine_record.specs.Slots.{free}
use Rattle.engine_record.specs.Clients.{no_client}
use Rattle.record_bytes.specs.declared.Row.{Row}
use Rattle.record_bytes.specs.Layout.{low}
use Rattle.record_bytes.specs.Written.{flag_of, row_of, staged_words, words_of, bytes_of}
use Rattle.record_bytes.specs.RoundTrip.{AllClients, AllSlots, ClientTyped, StateTyped, Typed}

pub low_below : (n : ℕ) → low n < 2 ^ 32
low_below n = omega arith

pub low-is : (n : ℕ) → n < 2 ^ 32 → low n ≡ n
low-is n h = omega arith

zero-below : 0 < 2 ^ 32
zero-below = omega arith

one_below : 1 < 2 ^ 32
one_below = omega arith

-- what holds of each holds of the one at a place, and of what is read past the end
pub client-at : (P : Client → Type 0) → P no_client → (cs : List Client) → AllClients P cs → (i : ℕ) → P (get_or cs i no_client)
client-at P n [] h i = n
client-at P n (c ∷ cs) h zero = h.0
client-at P n (c ∷ cs) h (suc i) = client-at P n cs h.1 i

pub slot_at : (P : Option Batch → Type 0) → P None → (ss : List (Option Batch)) → AllSlots P ss → (i : ℕ) → P (get_or ss i free)
slot_at P n [] h i = n
slot_at P n (s ∷ ss) h zero = h.0
slot_at P n (s ∷ ss) h (suc i) = slot_at P n ss h.1 i

number-below : (rule : ResetRule) → reset_number_of rule < 2 ^ 32
number-below Unblended = zero-below
number-below SrcOver = one_below

flag-below : (opened : Bool) → flag_of opened < 2 ^ 32
flag-below true = one_below
flag-below false = zero-below

-- the words of a client, before others
abbrev ClientBelow : Client → Type 0 → Type 0
ClientBelow c K = (c.window.start < 2 ^ 32) × ((c.window.length < 2 ^ 32) × ((c.pending < 2 ^ 32) × ((flag_of c.opened < 2 ^ 32) × K)))

client-then : {K : Type 0} (c : Client) → ClientTyped c → K → ClientBelow c K
client-then c h k = (h.0, (h.1, (h.2, (flag-below c.opened, k))))

-- and of a slot
abbrev RowBelow : Row → Type 0 → Type 0
RowBelow r K = (r.tag < 2 ^ 32) × ((r.client < 2 ^ 32) × ((r.ticket < 2 ^ 32) × ((r.offset < 2 ^ 32) × ((r.length < 2 ^ 32) × K))))

row-then : {K : Type 0} (s : Option Batch) → StateTyped s → K → RowBelow (row_of s) K
row-then {K} s h k = go s h
  where
    go : (st : Option Batch) → StateTyped st → RowBelow (row_of (st)) K
    go None h = (zero-below, (zero-below, (zero-below, (zero-below, (zero-below, k)))))
    go (Some b) h = (one_below, (h.0, (h.1, (low_below b.offset, (low_below b.length, k)))))

module _ (r : EngineRecord) (t : Typed r) where
  client : {K : Type 0} (i : ℕ) → K → ClientBelow (get_or r.clients i no_client) K
  client i k = client-then (get_or r.clients i no_client) (client-at ClientTyped (zero-below, zero-below, zero-below) r.clients t.clients i) k

  row : {K : Type 0} (i : ℕ) → K → RowBelow (row_of (get_or r.slots i free)) K
  row i k = row-then (get_or r.slots i free) (slot_at StateTyped tt r.slots t.slots i) k

  all-below : Below32 (words_of r)
  unfolding words_of
  all-below =
      let g : Staged = r.staged in
      let last : Below32 (staged_words g) = (t.staged, (low_below g.slot, (low_below g.total, (low_below g.received, tt)))) in
      let slots = row 0 (row 1 (row 2 (row 3 (row 4 (row 5 (row 6 (row 7 last))))))) in
      let clients = client 0 (client 1 (client 2 (client 3 slots))) in
      let s : Setup = r.setup in (
        low_below s.ring,
        (low_below s.memory, (low_below s.common, (number-below s.reset, (zero-below, (low_below r.read_offset, (t.next_ticket, (zero-below, clients))))))),
      )

  pub record_words : words (bytes_of r) ≡ words_of r
  unfolding bytes_of
  record_words = words-back-all (words_of r) all-below
