use mathlib.Core.Path.{sym, ◌∙◌}
use native.Mathlib.Omega.{arith}
use borrow.Author.Tests.{leb-true, not-true, not-false}
use Prim.Native.Nat.{◌+◌}
use lib.ListN.{get_or}
use Rattle.totals.specs.Totals.{largest}
use Rattle.tally.specs.Running.{plus}
use Rattle.tally_pieces.proofs.add.Goals as goal

pub returns-then-not-has_room : goal.returns-then-not-has_room
unfolding plus
returns-then-not-has_room c = rw (sym c.has_room.ensures ∙ not-true c.has_room.result c.if-not-has_room.true-raw)

pub overflow_add-counts : goal.overflow_add-counts
overflow_add-counts c = let room = leb-true (get_or c.args.running.counts c.args.k 0 + c.args.n) largest (sym c.has_room.ensures ∙ not-false c.has_room.result c.if-not-has_room.false-raw) in omega (arith, room)

pub returns : goal.returns
unfolding plus
returns c = rw (sym c.has_room.ensures ∙ not-false c.has_room.result c.if-not-has_room.false-raw)
