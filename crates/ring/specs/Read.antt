-- Internal: a word of a batch, or that there is none (01: a reader "never reads past its valid length").
use Rattle.std.specs.Prelude.{ℕ, List, cond, length, get_or, ltb, Option, Some, None}

-- word k of a list of words
abbrev pub read_word : List ℕ → ℕ → Option ℕ
read_word words k = cond (ltb k (length words)) (Some (get_or words k 0)) None
