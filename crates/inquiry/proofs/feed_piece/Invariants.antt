use Prim.Native.Nat.{ℕ, ◌-◌, ◌≤◌}
use mathlib.Core.Path.{◌≡◌}
use mathlib.Core.List.{List, ◌++◌}
use lib.ListN.{length, take}
use Rattle.inquiry.specs.Inquiry.{Stands}
use Rattle.inquiry.proofs.feed_piece.Given as goal

abbrev pub invariant-loop-used : goal.invariant-loop-used
invariant-loop-used l =
    (l.used ≤ length l.piece)
    × (length l.held ≡ length l.initial.held)
    × ((seen : List ℕ) → Stands l.question seen l.initial.current l.initial.held → Stands l.question (seen ++ take l.used l.piece) l.current l.held)

abbrev pub decreases-loop-used : goal.decreases-loop-used
decreases-loop-used l = length l.piece - l.used
