-- A line: text at the start of a lent buffer.
use Rattle.std.specs.Prelude.{ℕ, ◌+◌, cond, List, [], ◌∷◌, ltb, length, set}

-- the lent buffer, and how many of its bytes are text so far
pub record Line : Type 0 where
  pub bytes : List ℕ
  pub end : ℕ

-- the line of a buffer and a length
abbrev pub line_of : List ℕ → ℕ → Line
line_of bytes end = record { bytes = bytes; end = end }

-- one character more; it is dropped where it does not fit
unfoldable pub pushed : Line → ℕ → Line
pushed l byte = cond (ltb l.end (length l.bytes)) (line_of (set l.bytes l.end byte) (l.end + 1)) l

-- a text more, character by character
unfoldable pub appended : Line → List ℕ → Line
appended l [] = l
appended l (byte ∷ text) = appended (pushed l byte) text
