-- A line that was typed is handed over whole: it never ends past its buffer.
use mathlib.Core.Path.{◌≡◌}
use mathlib.Core.Bool.{cond}
use mathlib.Core.List.{List}
use Prim.Native.Nat.{ℕ, ◌≤◌}
use native.Mathlib.Omega.{arith}
use lib.ListN.{length}
use lib.Dec.{leb}
use borrow.Author.Tests.{le-leb}
use Rattle.text.specs.Line.{Line, line_of, appended}
use Rattle.text.proofs.Typing.{typed-within}
use Rattle.answer_lines.specs.Lines.{Types}

ends-within : (l : Line) (line : List ℕ) (n : ℕ) → line_of line n ≡ l → l.end ≤ length l.bytes → n ≤ length line
ends-within l line n e h = rw (← e) at h

pub handed : (text line line' : List ℕ) (n size : ℕ) → Types text line n line' → size ≡ cond (leb n (length line')) n 0 → Types text line size line'
handed text line line' n size t e =
    let within = ends-within (appended (line_of line 0) text) line' n t.typed (typed-within (line_of line 0) text (omega arith)) in
    let whole : size ≡ n = rw (le-leb n (length line') within) at e in
    rw whole t
