-- Internal: the words of a colour that is laid over a row (02, request 13). What they are is said by `Solid` of itself.
use Rattle.std.specs.Prelude.{cond, ℕ, ◌%◌, eqb}
use Rattle.solid_rows.specs.declared.colour.Solid.{Solid}

-- the word with which word k of a row is blended
abbrev pub half_of : Solid → ℕ → ℕ
half_of s k = cond (eqb (k % 2) 0) s.low s.high
