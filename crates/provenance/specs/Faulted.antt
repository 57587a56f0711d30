-- "the fault number, the place and the word at that place, and for 24 also the register's offset and what it held before that word"
-- (02, request 10; 01, "Groups and registers" and "Faults of a taken batch").
use Rattle.std.specs.Prelude.{List, [], ◌∷◌, cond, ◌&&◌, ℕ, zero, suc, ◌+◌, ◌-◌, ◌/◌, get_or, eqb, Option, Some, None}
use Rattle.word.specs.Word.{words}
use Rattle.word.specs.Field.{field}
use Rattle.pixel.specs.declared.gradient.Steps.{Steps}
use Rattle.register.specs.declared.bank.SurfaceRegisters.{SurfaceRegisters}
use Rattle.register.specs.declared.bank.Bank.{Bank}
use Rattle.task_check.specs.declared.fault.Fault.{Fault}
use Rattle.task_check.specs.declared.fault.Fault.TheVariants.{ReservedBits, GroupLength, OpenTask, NotWritable, Forbidden, BadSurface, SizeMismatch, OutOfBounds, Overlap}
use Rattle.batch.specs.Batch.{DecodedBatch, BatchEnd, finished, faulty}
use Rattle.records.specs.Records.{Entry}
use Rattle.lines.specs.Answered.{record_refusal, ticket_of_count, count_after}
use Rattle.provenance.specs.declared.Group.{Group}
use Rattle.provenance.specs.declared.HeldRegister.{HeldRegister}
use Rattle.provenance.specs.declared.Explanation.{Explanation}
use Rattle.provenance.specs.Drawn.{reading_of}

-- 01, "Groups and registers", by the headers alone: bits 31:16 the first register's offset, 15:2 the number of words. So many words of a
-- group are to come, the next of them for the register at this offset; and the same after one more word, a header if none was to come
abbrev pub group_after : Group → (word : ℕ) → Group
group_after group word =
    cond (eqb group.left 0)
    (record { left = field 15 2 word; register = field 31 16 word })
    (record { left = group.left - 1; register = group.register + 4 })

-- the offset of the register that word k is for; a header is for none
unfoldable pub register_from : Group → (k : ℕ) → List ℕ → ℕ
register_from group k [] = 0
register_from group zero (w ∷ ws) = cond (eqb group.left 0) 0 group.register
register_from group (suc k) (w ∷ ws) = register_from (group_after group w) k ws

abbrev pub register_at : List ℕ → (k : ℕ) → ℕ
register_at ws k = register_from (record { left = 0; register = 0 }) k ws

-- what the register at an offset holds, if it is one of a surface's, which stand at base, base + 4, base + 8 and base + 16
unfoldable pub held_surface : (base : ℕ) → SurfaceRegisters → (offset otherwise : ℕ) → ℕ
held_surface base s offset otherwise =
    cond (eqb offset base) s.control
    (cond (eqb offset (base + 0x4)) s.size
    (cond (eqb offset (base + 0x8)) s.stride
    (cond (eqb offset (base + 0x10)) s.address otherwise)))

-- what the register at an offset holds, if it is one of the steps
unfoldable pub held_steps : Steps → (offset otherwise : ℕ) → ℕ
held_steps s offset otherwise =
    cond (eqb offset 0x030) s.alpha
    (cond (eqb offset 0x034) s.red
    (cond (eqb offset 0x038) s.green
    (cond (eqb offset 0x03C) s.blue otherwise)))

-- what the register at an offset holds, 0 where none stands
unfoldable pub held_in : Bank → (offset : ℕ) → ℕ
held_in bank offset =
    held_surface 0x010 bank.source offset
    (held_surface 0x050 bank.destination offset
    (held_surface 0x100 bank.output offset
    (cond (eqb offset 0x01C) bank.colour
    (held_steps bank.steps offset
    (cond (eqb offset 0x090) bank.blending 0)))))

-- for 24 alone; the bank is that of all words before this one, those of earlier tasks and of the same group included
abbrev pub detail_of : Fault → (register : ℕ) → Bank → Option HeldRegister
detail_of Forbidden register bank = Some (record { offset = register; held = held_in bank register })
detail_of ReservedBits register bank = None
detail_of GroupLength register bank = None
detail_of OpenTask register bank = None
detail_of NotWritable register bank = None
detail_of BadSurface register bank = None
detail_of SizeMismatch register bank = None
detail_of OutOfBounds register bank = None
detail_of Overlap register bank = None

-- a batch of these words that ended so, with this bank
abbrev pub explained_by : List ℕ → Bank → BatchEnd → Option Explanation
explained_by ws bank finished = None
explained_by ws bank (faulty fault place) = Some (record {
  fault = fault;
  place = place;
  word = get_or ws (place / 4) 0;
  detail = detail_of fault (register_at ws (place / 4)) bank;
})

unfoldable pub explained : List ℕ → DecodedBatch → Option Explanation
explained ws reading = explained_by ws reading.bank reading.ending

-- of the record that was accepted with this ticket
unfoldable pub why_from : Option Explanation → (count ticket : ℕ) → List Entry → Option Explanation
why_from found count ticket [] = found
why_from found count ticket (entry ∷ entries) =
    why_from
    (cond (eqb (record_refusal entry) 0 && eqb (ticket_of_count count) ticket) (explained (words entry.batch) (reading_of entry)) found)
    (count_after count entry)
    ticket
    entries

unfoldable pub faulted_by : List Entry → (ticket : ℕ) → Option Explanation
faulted_by entries ticket = why_from None 0 ticket entries
