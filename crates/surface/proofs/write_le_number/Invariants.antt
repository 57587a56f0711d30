use mathlib.Core.Path.{◌≡◌}
use Prim.Native.Nat.{◌/◌, ◌^◌}
use lib.ListN.{length}
use Rattle.word.specs.Word.{byte_of}
use Rattle.surface.specs.Memory.{mapi, overwrite_range}
use Rattle.surface.proofs.write_le_number.Given as goal

abbrev pub invariant-loop-byte : goal.invariant-loop-byte
invariant-loop-byte l =
    (l.rest ≡ l.number / 256 ^ l.byte-index)
    × (l.byte-items ≡ mapi (overwrite_range 0 l.byte-index (λ j old. byte_of l.number j)) l.initial.byte-items)
    × (length l.byte-items ≡ length l.initial.byte-items)
