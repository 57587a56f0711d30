-- Scripts, computed.
use mathlib.Core.Path.{◌≡◌, refl}
use mathlib.Core.List.{[], ◌∷◌}
use Rattle.word.specs.Word.{le32_at}
use Rattle.model.specs.Calls.{opens, submit, run, pending, begin, piece, cancel, close}
use Rattle.script.specs.Script.{parse_call, decode}

-- a call of each kind, and an opcode that there is not; a run after it is not played
every_call :
    decode 9 (0 ∷ 64 ∷ 0 ∷ 0 ∷ 0 ∷ 0 ∷ 1 ∷ 0 ∷ 0 ∷ 1 ∷ 2 ∷ 4 ∷ 0 ∷ 0 ∷ 0 ∷ 10 ∷ 20 ∷ 30 ∷ 40 ∷ 2 ∷ 3 ∷ 2 ∷ 4 ∷ 1 ∷ 8 ∷ 0 ∷ 0 ∷ 0 ∷ 5 ∷ 1 ∷ 1 ∷ 0 ∷ 0 ∷ 0 ∷ 50 ∷ 6 ∷ 1 ∷ 7 ∷ 3 ∷ 8 ∷ 2 ∷ [])
    ≡ opens (record { start = 64; length = 256 }) ∷ submit 2 (10 ∷ 20 ∷ 30 ∷ 40 ∷ []) ∷ run ∷ pending 2 ∷ begin 1 8 ∷ piece 1 (50 ∷ []) ∷ cancel 1 ∷ close 3 ∷ []
unfolding decode parse_call le32_at
every_call = refl

-- a batch that is a byte short ends the list
cut_short : decode 9 (2 ∷ 1 ∷ 2 ∷ 4 ∷ 0 ∷ 0 ∷ 0 ∷ 10 ∷ 20 ∷ 30 ∷ []) ≡ run ∷ []
unfolding decode parse_call le32_at
cut_short = refl

-- two at most
two : decode 2 (2 ∷ 2 ∷ 2 ∷ []) ≡ run ∷ run ∷ []
unfolding decode parse_call
two = refl
