-- The words of one task (01, "Writer and replay"; 02, request 3).
use Rattle.std.specs.Prelude.{ℕ, List, [], ◌∷◌}
use Rattle.register.specs.declared.bank.Bank.{Bank}

-- the twenty words that write every register of a bank but the steps: six groups, each a header and its words, the last of them task end
unfoldable pub task_words : Bank → List ℕ
task_words b =
    0x00100014 ∷ b.source.control ∷ b.source.size ∷ b.source.stride ∷ b.colour ∷ b.source.address
    ∷ 0x0050000C ∷ b.destination.control ∷ b.destination.size ∷ b.destination.stride
    ∷ 0x00600004 ∷ b.destination.address
    ∷ 0x00900004 ∷ b.blending
    ∷ 0x0100000C ∷ b.output.control ∷ b.output.size ∷ b.output.stride
    ∷ 0x01100005 ∷ b.output.address
    ∷ []

-- the twenty-five words of the second form: "their group right after the first"
unfoldable pub shaded_words : Bank → List ℕ
shaded_words b =
    0x00100014 ∷ b.source.control ∷ b.source.size ∷ b.source.stride ∷ b.colour ∷ b.source.address
    ∷ 0x00300010 ∷ b.steps.alpha ∷ b.steps.red ∷ b.steps.green ∷ b.steps.blue
    ∷ 0x0050000C ∷ b.destination.control ∷ b.destination.size ∷ b.destination.stride
    ∷ 0x00600004 ∷ b.destination.address
    ∷ 0x00900004 ∷ b.blending
    ∷ 0x0100000C ∷ b.output.control ∷ b.output.size ∷ b.output.stride
    ∷ 0x01100005 ∷ b.output.address
    ∷ []
