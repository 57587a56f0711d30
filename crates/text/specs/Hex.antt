-- Numbers as text: hexadecimal digits in ASCII, the highest first (01, "Writer and replay": "eight upper-case hex digits").
use Rattle.std.specs.Prelude.{ℕ, ◌+◌, ◌-◌, ◌/◌, ◌%◌, cond, List, [], ◌∷◌, ◌++◌, ltb}
use Rattle.word.specs.Word.{be_bytes}

-- the character of a digit below 16: 0 to 9, then A to F
abbrev pub digit_of : ℕ → ℕ
digit_of value = cond (ltb value 10) (48 + value) (65 + (value - 10))

-- a byte: two digits
unfoldable pub hex_byte : ℕ → List ℕ
hex_byte byte = digit_of (byte / 16) ∷ digit_of (byte % 16) ∷ []

-- bytes in order
unfoldable pub hex_bytes : List ℕ → List ℕ
hex_bytes [] = []
hex_bytes (byte ∷ bytes) = hex_byte byte ++ hex_bytes bytes

-- a number of 32 bits: eight digits
unfoldable pub hex_word : ℕ → List ℕ
hex_word word = hex_bytes (be_bytes word)
