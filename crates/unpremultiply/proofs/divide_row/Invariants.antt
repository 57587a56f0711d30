use Rattle.lanes.specs.Lanes.{Done}
use Rattle.unpremultiply.specs.Prepared.{divided_at}
use Prim.Native.Nat.{◌*◌}
use mathlib.Core.Path.{◌≡◌}
use lib.ListN.{length}
use Rattle.unpremultiply.proofs.divide_row.Given as goal

abbrev pub invariant-loop-x : goal.invariant-loop-x
invariant-loop-x l = record { same_length : length l.row ≡ length l.initial.row; divided : Done (divided_at l.initial.row) l.initial.row l.row 0 (l.x * 4) }
