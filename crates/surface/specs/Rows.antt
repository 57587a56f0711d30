-- Rows of bytes in memory.
use Rattle.std.specs.Prelude.{ℕ, ◌-◌, ◌/◌, ◌%◌, cond, ◌&&◌, leb, ltb}
use Rattle.word.specs.Word.{byte_of}

-- h rows of n bytes, the first at a, each s bytes after the one before: byte j of row y is f y j; the others as they were
unfoldable pub overwrite_rows : ℕ → ℕ → ℕ → ℕ → (ℕ → ℕ → ℕ) → ℕ → ℕ → ℕ
overwrite_rows a s n h f i old =
    let y : ℕ = (i - a) / s in
    let j : ℕ = (i - a) % s in
    cond (leb a i && ltb y h && ltb j n) (f y j) old

-- byte j of a row of stored pixels p, b bytes each
unfoldable pub row_byte : ℕ → (ℕ → ℕ) → ℕ → ℕ
row_byte b p j = byte_of (p (j / b)) (j % b)
