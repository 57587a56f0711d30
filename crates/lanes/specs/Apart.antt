-- Internal: used only in contracts of helper functions. A part of memory copied over another.
use Rattle.std.specs.Prelude.{List, ◌⊎◌, ℕ, ◌+◌, ◌-◌, ◌≤◌, get_or}

-- two parts of n bytes of a memory, which do not meet
pub record Apart (size to from n : ℕ) : Type 0 where
  pub target : to + n ≤ size
  pub origin : from + n ≤ size
  pub apart : (from + n ≤ to) ⊎ (to + n ≤ from)

-- what byte i of the one becomes: the byte at its place in the other
abbrev pub moved_byte : List ℕ → ℕ → ℕ → ℕ → ℕ
moved_byte memory to from i = get_or memory (from + (i - to)) 0
