-- Memory as a list of bytes, changed byte by byte.
use Rattle.std.specs.Prelude.{ℕ, suc, ◌+◌, ◌-◌, ◌*◌, List, [], ◌∷◌, cond, ◌&&◌, take, drop, leb, ltb}

-- the list whose element at i is `f i` of the old element at i
unfoldable pub mapi : (ℕ → ℕ → ℕ) → List ℕ → List ℕ
mapi f [] = []
mapi f (x ∷ xs) = f 0 x ∷ mapi (λ (i : ℕ). f (suc i)) xs

-- the n bytes from `at` on, each by g of its place there and its old value; the others as they were
unfoldable pub overwrite_range : ℕ → ℕ → (ℕ → ℕ → ℕ) → ℕ → ℕ → ℕ
overwrite_range at n g i old = cond (leb at i && ltb (i - at) n) (g (i - at) old) old

-- the number that bytes hold, low byte first
abbrev pub little_endian : List ℕ → ℕ
little_endian [] = 0
little_endian (x ∷ xs) = x + 256 * little_endian xs

-- the stored pixel of b bytes at address i
unfoldable pub pixel_at : ℕ → List ℕ → ℕ → ℕ
pixel_at b memory i = little_endian (take b (drop i memory))
