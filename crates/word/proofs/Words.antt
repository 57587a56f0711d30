-- Laws of words in bytes.
use mathlib.Core.Path.{◌≡◌, refl, ap, sym, ◌∙◌}
use mathlib.Core.List.{List, [], ◌∷◌, ◌++◌, append-nil}
use Prim.Native.Nat.{ℕ, zero, suc, ◌+◌, ◌*◌, ◌/◌, ◌%◌, ◌^◌, ◌<◌}
use native.Mathlib.Omega.{arith}
use lib.ListN.{length, get_or}
use Rattle.word.specs.Word.{byte_of, le32, le32_at, le_bytes, words_bytes, words}

-- the low bytes of a number, one more at a time
low-two : (word : ℕ) → word % 256 + word / 256 % 256 * 256 ≡ word % 65536
low-two word = omega arith

low_three : (word : ℕ) → word % 65536 + word / 65536 % 256 * 65536 ≡ word % 16777216
low_three word = omega arith

all-four : (word : ℕ) → word < 2 ^ 32 → word % 16777216 + word / 16777216 % 256 * 16777216 ≡ word
all-four word small = omega arith

-- a word is made of its bytes again
pub le32-bytes : (word : ℕ) → word < 2 ^ 32 → le32 (byte_of word 0) (byte_of word 1) (byte_of word 2) (byte_of word 3) ≡ word
unfolding byte_of
le32-bytes word small =
    let first : word / 1 % 256 ≡ word % 256 = omega arith in
    rw first (rw low-two (rw low_three (all-four word small)))

pub length-words : (bytes : List ℕ) → length (words bytes) ≡ length bytes / 4
unfolding words
length-words [] = refl
length-words (a ∷ []) = refl
length-words (a ∷ b ∷ []) = refl
length-words (a ∷ b ∷ c ∷ []) = refl
length-words (a ∷ b ∷ c ∷ d ∷ rest) = omega (arith, length-words rest)

-- word k stands at byte 4 * k
pub get_or-words : (k : ℕ) (bytes : List ℕ) → k < length bytes / 4 → get_or (words bytes) k 0 ≡ le32_at bytes (4 * k)
unfolding words le32_at
get_or-words zero [] h = omega arith
get_or-words zero (a ∷ []) h = omega arith
get_or-words zero (a ∷ b ∷ []) h = omega arith
get_or-words zero (a ∷ b ∷ c ∷ []) h = omega arith
get_or-words zero (a ∷ b ∷ c ∷ d ∷ rest) h = refl
get_or-words (suc k) [] h = omega arith
get_or-words (suc k) (a ∷ []) h = omega arith
get_or-words (suc k) (a ∷ b ∷ []) h = omega arith
get_or-words (suc k) (a ∷ b ∷ c ∷ []) h = omega arith
get_or-words (suc k) (a ∷ b ∷ c ∷ d ∷ rest) h =
    let ih = get_or-words k rest (omega arith) in
    let e0 : 4 * suc k ≡ suc (suc (suc (suc (4 * k)))) = omega arith in
    let e1 : 4 * suc k + 1 ≡ suc (suc (suc (suc (4 * k + 1)))) = omega arith in
    let e2 : 4 * suc k + 2 ≡ suc (suc (suc (suc (4 * k + 2)))) = omega arith in
    let e3 : 4 * suc k + 3 ≡ suc (suc (suc (suc (4 * k + 3)))) = omega arith in
    rw (e3, e2, e1, e0) ih

-- the number that a word's bytes hold
pub words-le_bytes : (word : ℕ) (rest : List ℕ) → word < 2 ^ 32 → words (byte_of word 0 ∷ byte_of word 1 ∷ byte_of word 2 ∷ byte_of word 3 ∷ rest) ≡ word ∷ words rest
unfolding words
words-le_bytes word rest small = ap (λ (w : ℕ). w ∷ words rest) (le32-bytes word small)

-- each of some numbers is a word of 32 bits
abbrev pub Below32 : List ℕ → Type 0
Below32 [] = Unit
Below32 (w ∷ ws) = (w < 2 ^ 32) × Below32 ws

-- words that were written are read back, whatever bytes come after them
pub words_back : (ws rest : List ℕ) → Below32 ws → words (words_bytes ws ++ rest) ≡ ws ++ words rest
unfolding words_bytes le_bytes
words_back [] rest h = refl
words_back (w ∷ ws) rest h = words-le_bytes w (words_bytes ws ++ rest) h.0 ∙ ap (λ (l : List ℕ). w ∷ l) (words_back ws rest h.1)

-- and where none come
pub words-back-all : (ws : List ℕ) → Below32 ws → words (words_bytes ws) ≡ ws
unfolding words
words-back-all ws h = ap words (sym (append-nil (words_bytes ws))) ∙ words_back ws [] h ∙ append-nil ws
