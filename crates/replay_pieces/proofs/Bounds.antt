-- What a call of feed writes of a line lies within it.
use Rattle.std.proofs.Common.{◌≡◌, ℕ, ◌≤◌, List, length, ap, arith, length-append, length-drop, length-take}
use Rattle.word.specs.Splice.{spliced}
use Rattle.lines.specs.Prints.{Prints}

-- what was printed has room, since a line stays as long as it was
pub prints-within : (text line : List ℕ) (written : ℕ) (line' : List ℕ) → Prints text line written line' → length line' ≡ length line → written ≤ length line
unfolding spliced
prints-within text line written line' e same =
    let l = simp (length-append, length-take, length-drop) at (ap length e.bytes) in
    omega (arith, e.size, l)
