-- Words written one after the other.
use mathlib.Core.Path.{◌≡◌, refl, ap, sym, ◌∙◌}
use mathlib.Core.List.{List, [], ◌∷◌, ◌++◌, append_assoc, append-nil}
use Prim.Native.Nat.{ℕ, ◌+◌, ◌*◌, ◌≤◌, ◌<◌}
use native.Mathlib.Numerals.{add-one}
use native.Mathlib.Omega.{arith}
use lib.ListN.{length, take, get_or}
use lib.Seq.{length-take-le, take-suc}
use Rattle.word.specs.Word.{le_bytes, words_bytes}
use Rattle.word.specs.Splice.{spliced}
use Rattle.word.proofs.Splice.{spliced-none, spliced-on}

pub length-bytes : (words : List ℕ) → length (words_bytes words) ≡ 4 * length words
unfolding words_bytes le_bytes
length-bytes [] = refl
length-bytes (w ∷ ws) = omega (arith, length-bytes ws)

bytes-append : (a b : List ℕ) → words_bytes (a ++ b) ≡ words_bytes a ++ words_bytes b
unfolding words_bytes
bytes-append [] b = refl
bytes-append (w ∷ ws) b = rw (bytes-append ws b) (sym (append_assoc (le_bytes w) (words_bytes ws) (words_bytes b)))

bytes-last : (words : List ℕ) (word : ℕ) → words_bytes (words ++ (word ∷ [])) ≡ words_bytes words ++ le_bytes word
unfolding words_bytes
bytes-last words word = rw (bytes-append words (word ∷ []), append-nil (le_bytes word))

length-word : (word : ℕ) → length (le_bytes word) ≡ 4
unfolding le_bytes
length-word word = refl

-- none is written
pub write_none : (at : ℕ) (words bytes : List ℕ) → bytes ≡ spliced at (words_bytes (take 0 words)) bytes
unfolding words_bytes
write_none at words bytes = sym (spliced-none at bytes)

-- one more is written
pub write_next : (at k : ℕ) (words bytes₀ bytes : List ℕ) → k < length words → at + 4 * length words ≤ length bytes₀ → bytes ≡ spliced at (words_bytes (take k words)) bytes₀ →
    spliced (at + 4 * k) (le_bytes (get_or words k 0)) bytes ≡ spliced at (words_bytes (take (k + 1) words)) bytes₀
write_next at k words bytes₀ bytes h fits e =
    let word : ℕ = get_or words k 0 in
    let before : length (words_bytes (take k words)) ≡ 4 * k = length-bytes (take k words) ∙ ap (λ (n : ℕ). 4 * n) (length-take-le k words (omega arith)) in
    let more : words_bytes (take (k + 1) words) ≡ words_bytes (take k words) ++ le_bytes word = rw (add-one k, take-suc words k 0 h) (bytes-last (take k words) word) in
    rw (e, more, ← before) (spliced-on at (words_bytes (take k words)) (le_bytes word) bytes₀ (omega (arith, length-word word)))

-- words written in two parts, the second where the first ends
pub write_on : (at : ℕ) (a b bytes : List ℕ) → at + 4 * (length a + length b) ≤ length bytes →
    spliced (at + 4 * length a) (words_bytes b) (spliced at (words_bytes a) bytes) ≡ spliced at (words_bytes (a ++ b)) bytes
write_on at a b bytes fits =
    rw (bytes-append a b, ← length-bytes a) (spliced-on at (words_bytes a) (words_bytes b) bytes (omega (arith, length-bytes a, length-bytes b)))
