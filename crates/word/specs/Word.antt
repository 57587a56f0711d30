-- 32-bit words in bytes. A batch's words are little-endian (01, "Groups and registers"), the length of a replay record is
-- big-endian (01, "Writer and replay").
use Rattle.std.specs.Prelude.{ℕ, ◌+◌, ◌*◌, ◌/◌, ◌%◌, ◌^◌, ◌<◌, List, [], ◌∷◌, ◌++◌, get_or}

-- each of the numbers is a byte: what is lent and what a script holds is bytes (01, "Engine, desks, queue")
abbrev pub AllBytes : List ℕ → Type 0
AllBytes [] = Unit {0}
AllBytes (b ∷ bs) = (b < 2 ^ 8) × AllBytes bs

-- byte k of a number, byte 0 the lowest
unfoldable pub byte_of : ℕ → ℕ → ℕ
byte_of word k = word / 256 ^ k % 256

-- four bytes in order as a little-endian word: the first is the lowest
abbrev pub le32 : ℕ → ℕ → ℕ → ℕ → ℕ
le32 a b c d = a + b * 256 + c * 65536 + d * 16777216

-- four bytes in order as a big-endian word: the first is the highest
abbrev pub be32 : ℕ → ℕ → ℕ → ℕ → ℕ
be32 a b c d = le32 d c b a

-- the word that stands at an offset of a list of bytes
unfoldable pub le32_at : List ℕ → ℕ → ℕ
le32_at bytes at = le32 (get_or bytes at 0) (get_or bytes (at + 1) 0) (get_or bytes (at + 2) 0) (get_or bytes (at + 3) 0)

unfoldable pub be32_at : List ℕ → ℕ → ℕ
be32_at bytes at = be32 (get_or bytes at 0) (get_or bytes (at + 1) 0) (get_or bytes (at + 2) 0) (get_or bytes (at + 3) 0)

-- the four bytes of a word, in order
unfoldable pub le_bytes : ℕ → List ℕ
le_bytes word = byte_of word 0 ∷ byte_of word 1 ∷ byte_of word 2 ∷ byte_of word 3 ∷ []

unfoldable pub be_bytes : ℕ → List ℕ
be_bytes word = byte_of word 3 ∷ byte_of word 2 ∷ byte_of word 1 ∷ byte_of word 0 ∷ []

-- words as bytes, one after the other, each little-endian
unfoldable pub words_bytes : List ℕ → List ℕ
words_bytes [] = []
words_bytes (word ∷ words) = le_bytes word ++ words_bytes words

-- the little-endian words of a list of bytes; up to three bytes left over at its end are no word
unfoldable pub words : List ℕ → List ℕ
words [] = []
words (a ∷ []) = []
words (a ∷ b ∷ []) = []
words (a ∷ b ∷ c ∷ []) = []
words (a ∷ b ∷ c ∷ d ∷ rest) = le32 a b c d ∷ words rest
