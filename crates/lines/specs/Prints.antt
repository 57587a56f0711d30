-- A line printed into a buffer that is lent.
use Rattle.std.specs.Prelude.{◌≡◌, List, ℕ, length}
use Rattle.word.specs.Splice.{spliced}

-- a text at the start of a line's buffer; other bytes are as they were
pub record Prints (text line : List ℕ) (written : ℕ) (line' : List ℕ) : Type 0 where
  pub size : written ≡ length text
  pub bytes : line' ≡ spliced 0 text line
