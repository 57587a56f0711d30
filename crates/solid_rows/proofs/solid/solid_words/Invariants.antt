use Rattle.std.proofs.Common.{◌≡◌, ◌*◌, length}
use Rattle.lanes.specs.Lanes.{Done}
use Rattle.solid_rows.specs.Over.{over_at}
use Rattle.solid_rows.proofs.solid.solid_words.Given as goal

abbrev pub invariant-loop-k : goal.invariant-loop-k
invariant-loop-k l = record { same_length : length l.d ≡ length l.initial.d; laid : Done (over_at l.s.colour l.initial.d) l.initial.d l.d (l.a * 2) (l.k * 2) }
